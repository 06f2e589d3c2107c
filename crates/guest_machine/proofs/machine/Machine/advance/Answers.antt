use Rattle.std.proofs.Common.{ap}
use Rattle.std.proofs.lemmas.Result.{IfOk-weaker}
use Rattle.plain_machine.specs.PlainMachine.{is_js}
use Rattle.guest_machine.proofs.PlainSteps.{js_done, wait_done}
use Rattle.guest_machine.proofs.machine.Machine.advance.Goals as goal

pub returns-in-Js : goal.returns-in-Js
returns-in-Js c =
    record { steps = IfOk-weaker c.act.result _ _ (λ done does_so. js_done c.args.self.now c.requires.whole c.requires.going c.act.new.self done c.in-Js.is does_so) c.act.ensures.does }

pub returns-in-Idle : goal.returns-in-Idle
returns-in-Idle c = record { steps = wait_done c.args.self.now c.requires.whole c.requires.going c.wait.new.self c.wait.result (ap is_js c.in-Idle.is) c.wait.ensures.waits }

pub returns-in-Native : goal.returns-in-Native
returns-in-Native c =
    record { steps = wait_done c.args.self.now c.requires.whole c.requires.going c.wait-in-Native.new.self c.wait-in-Native.result (ap is_js c.in-Native.is) c.wait-in-Native.ensures.waits }

pub returns-in-Gc : goal.returns-in-Gc
returns-in-Gc c = record { steps = wait_done c.args.self.now c.requires.whole c.requires.going c.wait-in-Gc.new.self c.wait-in-Gc.result (ap is_js c.in-Gc.is) c.wait-in-Gc.ensures.waits }
