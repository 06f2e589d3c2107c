use Rattle.std.proofs.Common.{◌∙◌, ap, sym}
use Rattle.std.specs.Prelude.{is_some, not}
use Rattle.code_objects.specs.CodeObjects.{start_at}
use Rattle.guest_machine.proofs.Barring.{WentOn}
use Rattle.guest_machine.proofs.Deoptimising.{deoptimising_ends, giving_up_acts, none_off, none_without, one_given_up, unoptimised_acts}
use Rattle.guest_machine.proofs.machine.Machine.deoptimise.Goals.{then-not-rise-via-then-not-rise, then-not-rise-via-else-not-rise+then-is_none}
use Rattle.guest_machine.proofs.machine.Machine.deoptimise.Goals as goal

pub returns-then-not-rise-clause-acts : goal.returns-then-not-rise-clause-acts
returns-then-not-rise-clause-acts c =
    elim c.then-not-rise.branch [
      | then-not-rise-via-then-not-rise w ↦
          deoptimising_ends c.args.self.now c.rise.new.self c.args.func c.args.reason c.new-events.result c.rise.ensures.whole w.if-not-rise.ensures.rises w.if-not-rise.ensures.moves
          (ap (λ m. m.code) c.rise.ensures.same) c.new-events.ensures
      | then-not-rise-via-else-not-rise+then-is_none w ↦
          unoptimised_acts c.args.self.now c.rise.new.self
          (record { whole = c.requires.whole; going = c.requires.going; still = c.rise.ensures.whole; risen = w.if-not-rise.ensures.rises; moved = w.if-not-rise.ensures.moves; same = c.rise.ensures.same })
          c.args.func c.requires.known c.args.reason c.new-events.result c.new-events.ensures
          (ap is_some (ap (start_at c.rise.new.self.code.starts) (sym w.optimised_name.ensures) ∙ sym w.start_of.ensures.start) ∙ w.is_none.ensures ∙ ap not w.if-is_none.true)
    ]

pub returns-then-not-rise-clause-tick : goal.returns-then-not-rise-clause-tick
returns-then-not-rise-clause-tick c =
    elim c.then-not-rise.branch [
      | then-not-rise-via-then-not-rise w ↦
          λ state frame callers is stack_is. none_off c.args.self.now c.rise.new.self c.args.func c.args.reason state frame callers is stack_is w.if-not-rise.ensures.rises
      | then-not-rise-via-else-not-rise+then-is_none w ↦
          λ state frame callers is stack_is.
          none_without c.args.self.now c.rise.new.self c.args.func c.args.reason state frame callers is stack_is (ap (λ m. m.code) c.rise.ensures.same)
          (ap is_some (ap (start_at c.rise.new.self.code.starts) (sym w.optimised_name.ensures) ∙ sym w.start_of.ensures.start) ∙ w.is_none.ensures ∙ ap not w.if-is_none.true)
    ]

pub returns : goal.returns
returns c =
    let went : WentOn c.args.self.now c.rise.new.self =
    record { whole = c.requires.whole; going = c.requires.going; still = c.rise.ensures.whole; risen = c.if-not-rise.ensures.rises; moved = c.if-not-rise.ensures.moves; same = c.rise.ensures.same } in
    let there = ap is_some (ap (start_at c.rise.new.self.code.starts) (sym c.optimised_name.ensures) ∙ sym c.start_of.ensures.start) ∙ c.is_none.ensures ∙ ap not c.if-is_none.false in
    record {
      acts =
          giving_up_acts c.args.self.now c.rise.new.self c.give_up.new.self went c.args.func c.requires.known c.args.reason c.new-events.result c.give_up.new.events c.new-events.ensures there
          c.in_ok-give_up.ensures;
      tick = λ state frame callers is stack_is.
          one_given_up c.args.self.now c.rise.new.self c.args.func c.args.reason state frame callers is stack_is went (ap (λ m. m.code) c.rise.ensures.same) there;
    }
