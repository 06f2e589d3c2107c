use Rattle.std.proofs.Common.{◌++◌, ◌∷◌, ◌+◌, [], ap, ◌∙◌, arith, length, map}
use Rattle.code_event.specs.CodeMap.{ranges}
use Rattle.code_event.specs.Symbolizer.{frames_over}
use Rattle.code_event.specs.declared.layout.TheConstants.{SLOT_SIZE}
use Rattle.code_objects.specs.CodeObjects.{start_at}
use Rattle.guest_stack.specs.Stack.{address}
use Rattle.guest_machine.proofs.Machines.{frames_read, frames_few}
use Rattle.guest_machine.proofs.machine.Machine.frames.Goals as goal

pub push_return_addresses-requires-clause-room : goal.push_return_addresses-requires-clause-room
push_return_addresses-requires-clause-room c =
    let few = frames_few c.args.self.now c.requires.whole in
    let one = ap length (c.push.ensures ∙ ap (λ l. l ++ c.address.result ∷ []) c.new.ensures) in omega (arith, few, one)

pub returns-clause-plain : goal.returns-clause-plain
returns-clause-plain c steps events reflects =
    let first = c.push.ensures ∙ ap (λ l. l ++ c.address.result ∷ []) c.new.ensures
    ∙ ap (λ a. a ∷ []) (c.address.ensures.address ∙ ap (address (start_at c.args.self.now.code.starts)) c.frame.ensures) in
    let all = c.push_return_addresses.ensures ∙ ap (λ l. l ++ map (λ frame. address (start_at c.args.self.now.code.starts) frame + SLOT_SIZE) c.args.self.now.stack.callers) first in
    ap (frames_over (ranges events) c.args.self.now.state) all ∙ frames_read c.args.self.now c.requires.whole steps events reflects
