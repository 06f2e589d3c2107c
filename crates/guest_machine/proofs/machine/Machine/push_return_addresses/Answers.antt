use Rattle.std.proofs.Common.{◌++◌, ◌∷◌, ◌+◌, [], map, ap, ◌∙◌, sym, subst, arith}
use Rattle.std.specs.List.{AllByRecursion}
use Rattle.std.specs.Prelude.{reverse}
use Rattle.code_event.specs.declared.layout.TheConstants.{SLOT_SIZE}
use Rattle.code_objects.specs.CodeObjects.{start_at}
use Rattle.guest_machine.specs.Machine.{program_of}
use Rattle.guest_stack.specs.Stack.{address}
use Rattle.guest_stack.specs.Laws.{IsPlaced}
use Rattle.guest_machine.proofs.Addresses.{one_listed, none_left, has_room, all_last, total_length}
use Rattle.guest_machine.proofs.machine.Machine.push_return_addresses.Goals as goal

pub loop-caller-init : goal.loop-caller-init
loop-caller-init c =
    let same = ap reverse (ap (λ i. i.iter.rest.now) c.into_iter-caller-iterator.ensures.into_iter_gives ∙ ap (λ i. i.rest.now) c.rev-caller-items.ensures.source ∙ c.iter.ensures.rest) ∙ c.callers.ensures in (
      ap (λ frames. c.args.frames.now ++ map (λ frame. address (start_at c.args.self.now.code.starts) frame + SLOT_SIZE) frames) same,
      subst (AllByRecursion (IsPlaced (program_of c.args.self.now) (start_at c.args.self.now.code.starts))) (sym same) c.requires.whole.placed.1,
    )

pub address-requires : goal.address-requires
address-requires c =
    record { placed = (all_last (IsPlaced (program_of c.args.self.now) (start_at c.args.self.now.code.starts)) c.loop-caller.caller-iterator.iter.rest.now c.next.new.self.iter.rest.now c.in-Some.caller.now c.loop-caller.invariant.1 c.in-Some.ensures.steps).0 }

pub push-requires : goal.push-requires
push-requires c =
    let room = c.requires.room in
    has_room (λ frame. address (start_at c.args.self.now.code.starts) frame + SLOT_SIZE) c.loop-caller.frames _ c.loop-caller.caller-iterator.iter.rest.now c.loop-caller.invariant.0 255 c.next.new.self.iter.rest.now c.in-Some.caller.now c.in-Some.ensures.steps
    (let total = total_length (λ frame. address (start_at c.args.self.now.code.starts) frame + SLOT_SIZE) c.args.frames.now c.args.self.now.stack.callers in omega (arith, total, room))

pub loop-caller-preserved : goal.loop-caller-preserved
loop-caller-preserved c = (
  ap (λ listed. listed ++ map (λ frame. address (start_at c.args.self.now.code.starts) frame + SLOT_SIZE) (reverse c.next.new.self.iter.rest.now))
      (c.push.ensures ∙ ap (λ a. c.loop-caller.frames ++ (a + SLOT_SIZE) ∷ []) c.address.ensures.address)
      ∙ one_listed (λ frame. address (start_at c.args.self.now.code.starts) frame + SLOT_SIZE) c.loop-caller.frames _ c.loop-caller.caller-iterator.iter.rest.now c.loop-caller.invariant.0 c.next.new.self.iter.rest.now c.in-Some.caller.now c.in-Some.ensures.steps,
  (all_last (IsPlaced (program_of c.args.self.now) (start_at c.args.self.now.code.starts)) c.loop-caller.caller-iterator.iter.rest.now c.next.new.self.iter.rest.now c.in-Some.caller.now c.loop-caller.invariant.1 c.in-Some.ensures.steps).1,
)

pub returns : goal.returns
returns c = none_left (λ frame. address (start_at c.args.self.now.code.starts) frame + SLOT_SIZE) c.loop-caller.frames _ c.loop-caller.caller-iterator.iter.rest.now c.loop-caller.invariant.0 c.in-None.ensures.steps.0
