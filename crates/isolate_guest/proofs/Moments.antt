-- The moments of a machine: where it opens, and the next one after a step.
use Rattle.std.proofs.Common.{◌≡◌, ℕ, suc, List, [], ◌∷◌, ◌++◌, refl, ap, ◌∙◌, sym}
use Rattle.std.specs.Prelude.{None, Result, Ok, Err, IfOk, OnOk}
use Rattle.guest_program.specs.declared.instr.Func.{Func}
use Rattle.code_event.specs.CodeMap.{after_events, ranges}
use Rattle.code_event.specs.DeoptReasons.{DeoptReasons, no_reasons, reasons, reasons_after}
use Rattle.code_event.specs.Symbolizer.{frames_over}
use Rattle.code_event.specs.declared.entry.Entry.{Entry}
use Rattle.code_event.specs.declared.event.CodeEvent.{CodeEvent}
use Rattle.plain_machine.specs.PlainFrames.{plain_frames, reasons_of}
use Rattle.plain_machine.specs.PlainMachine.{plain}
use Rattle.guest_machine.proofs.Machines.{frames_read}
use Rattle.guest_machine.proofs.Raised.{reasons_both}
use Rattle.guest_machine.specs.Machine.{IsMachine, Reflects, program_of}
use Rattle.guest_machine.specs.Rules.{KeepsRules, Opens}
use Rattle.guest_machine.specs.declared.machine.Machine.{Machine}
use Rattle.guest_machine.specs.declared.machine.StepDone.{StepDone}
use Rattle.isolate_acts.proofs.Stamped.{after_events-append}
use Rattle.isolate_acts.specs.Phases.{IsStep}
use Rattle.isolate_acts.specs.Progress.{Moment}
use Rattle.isolate_guest.proofs.OfCode.{opens_of_code, step_of_code}
use Rattle.isolate_guest.specs.Guest.{GuestsShow, IsAt, OpensAt, stack_of}

-- the moment of a machine after these steps, which has raised these events
abbrev pub moment_of : Machine → ℕ → List CodeEvent → Moment
moment_of machine steps events = record { funcs = program_of machine; steps = steps; code = ranges events; state = machine.state; stack = stack_of machine }

pub is_at : (machine : Machine) (steps : ℕ) (events : List CodeEvent) → Reflects machine steps events → IsAt machine (moment_of machine steps events)
is_at machine steps events reflects = record { events = events; reflects = reflects; funcs = refl; code = refl; state = refl; stack = refl }

pub guests_show : GuestsShow
guests_show machine moment whole at =
    (λ i. frames_over (at.code i) (at.state i) (at.stack i))
    ∙ frames_read machine whole moment.steps at.events at.reflects
    ∙ sym (ap (λ funcs. plain_frames funcs (plain funcs moment.steps)) at.funcs)

-- the machine is at the moment before the first step of its program
pub opens_at : (program : List Func) (machine : Machine) (event : CodeEvent) → IsMachine machine → program_of machine ≡ program → Reflects machine 0 (event ∷ []) → Opens machine event
    → (moment : Moment) × IsAt machine moment × OpensAt program event moment
opens_at program machine event whole program_is reflects opens =
    let at : IsAt machine (moment_of machine 0 (event ∷ [])) = is_at machine 0 (event ∷ []) reflects in (
      moment_of machine 0 (event ∷ []),
      at,
      record {
        funcs = program_is;
        steps = refl;
        code = refl;
        of_code = opens_of_code machine event opens;
        reasons = λ entry. reflects.reasons entry ∙ ap (λ funcs. reasons_of funcs (plain funcs 0) entry) program_is;
        shows = guests_show machine (moment_of machine 0 (event ∷ [])) whole at;
      },
    )

-- A machine at a moment, and a step that has raised these events.
module _ (old new : Machine) (more : List CodeEvent) (moment : Moment) (at : IsAt old moment) (after : Reflects new (suc moment.steps) (at.events ++ more)) (program : program_of new ≡ program_of old) where
  same_funcs : program_of new ≡ moment.funcs
  same_funcs = program ∙ sym at.funcs

  code_after : ranges (at.events ++ more) ≡ after_events moment.code more
  code_after = after_events-append [] at.events more ∙ ap (λ code. after_events code more) (sym at.code)

  reasons_before : reasons_of moment.funcs (plain moment.funcs moment.steps) ≡ reasons at.events
  reasons_before = λ i entry. (ap (λ funcs. reasons_of funcs (plain funcs moment.steps) entry) at.funcs ∙ sym (at.reflects.reasons entry)) i

  reasons_next : (entry : Entry)
      → reasons_after moment.code (reasons_of moment.funcs (plain moment.funcs moment.steps)) more entry ≡ reasons_of moment.funcs (plain moment.funcs (suc moment.steps)) entry
  reasons_next entry =
      (λ i. reasons_after (at.code i) (reasons_before i) more entry)
      ∙ sym (ap (λ (why : DeoptReasons). why entry) (reasons_both [] no_reasons at.events more))
      ∙ after.reasons entry
      ∙ ap (λ funcs. reasons_of funcs (plain funcs (suc moment.steps)) entry) same_funcs

  -- the moment after the step
  pub steps_to : IsMachine new → old.ended ≡ None → KeepsRules (plain (program_of old) moment.steps) old new more
      → (next : Moment) × IsAt new next × IsStep moment next more
  steps_to whole going rules =
      let next : Moment = moment_of new (suc moment.steps) (at.events ++ more) in
      let next_at : IsAt new next = is_at new (suc moment.steps) (at.events ++ more) after in (
        next,
        next_at,
        record {
          going = ap (λ funcs. (plain funcs moment.steps).ended) at.funcs ∙ sym at.reflects.state.ended ∙ going;
          funcs = same_funcs;
          steps = refl;
          code = code_after;
          of_code = step_of_code (plain (program_of old) moment.steps) old new more rules;
          reasons = reasons_next;
          shows = guests_show new next whole next_at;
        },
      )

-- a step that is Ok leads to the next moment
pub step_leads : {E : Type 0} (old new : Machine) (result : Result StepDone E) → old.ended ≡ None → OnOk result (IsMachine new) → OnOk result (program_of new ≡ program_of old)
    → IfOk result (λ done. (steps : ℕ) (events : List CodeEvent) → Reflects old steps events → Reflects new (suc steps) (events ++ done.events))
    → IfOk result (λ done. (steps : ℕ) (events : List CodeEvent) → Reflects old steps events → KeepsRules (plain (program_of old) steps) old new done.events)
    → IfOk result (λ done. (moment : Moment) → IsAt old moment → (next : Moment) × IsAt new next × IsStep moment next done.events)
step_leads old new (Ok done) going whole program reflects rules = λ moment at.
    steps_to old new done.events moment at (reflects moment.steps at.events at.reflects) program whole going (rules moment.steps at.events at.reflects)
step_leads old new (Err refused) going whole program reflects rules = tt
