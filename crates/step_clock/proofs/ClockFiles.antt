-- A turn on the step clock raises nothing that leaves a file until the isolate ends.
use Rattle.std.proofs.Common.{◌≡◌, ℕ, suc, List, [], ◌∷◌, ◌++◌, length, refl, ap, sym, ◌∙◌}
use Rattle.std.specs.List.{AllByRecursion}
use Rattle.std.specs.Prelude.{Bool, true, false, map, ◌==◌, Some, None}
use Rattle.code_event.specs.declared.event.CodeEvent.{CodeEvent}
use Rattle.code_event.specs.declared.event.CodeEvent.TheVariants as event
use Rattle.code_event.specs.declared.event.Command.{Command}
use Rattle.code_event.specs.declared.event.Command.TheVariants as command
use Rattle.code_event.specs.declared.event.Options.{Options}
use Rattle.code_event.specs.declared.tick.Item.TheVariants as item
use Rattle.code_event.specs.declared.tick.Tick.{Tick}
use Rattle.isolate.specs.PlainFile.{leaves_files}
use Rattle.run_schedule.specs.declared.schedule.EndCause.{EndCause}
use Rattle.run_schedule.specs.declared.schedule.EndCause.TheVariants as cause
use Rattle.raised_so_far.proofs.Items.{all_joined}
use Rattle.raised_so_far.specs.FileOrder.{ItemLeavesNoFile, LeavesNoFile}
use Rattle.raised_so_far.specs.ItemsSoFar.{IsCodeEvent}
use Rattle.isolate_acts.proofs.Ending.{nothing_follows}
use Rattle.isolate_acts.specs.Acts.{Act, passes, starts, stops, refuses, cuts_off, asks, samples, steps, ends, ends_short, act_after, act_calls, act_raises, calls_on, cut_marks, given_up_ticks, moment_after, numbered, progress_on, raised_on}
use Rattle.isolate_acts.specs.Phases.{Phase, at_port, asking, sampling, stepping, closing, must_end, LeadTo, MayAct, first_phase}
use Rattle.isolate_acts.specs.Progress.{Moment, Progress, entry_time}
use Rattle.port_calls.proofs.Answering.{first_calls, later_calls}
use Rattle.step_clock.specs.ClockCalls.{begun_after, begun_on}
use Rattle.step_clock.specs.ClockTurns.{TurnsLeaveNoFile}
use Rattle.step_clock.proofs.ClockCalled.{EachByClock, IsByClock, each_by_clock}
use Rattle.step_clock.proofs.ClockPhases.{given_is}

code_leaves_none : (e : CodeEvent) → IsCodeEvent e → LeavesNoFile e
code_leaves_none (event.Start session options time) is = absurd is
code_leaves_none (event.Stop session time) is = absurd is
code_leaves_none (event.Finish time files) is = absurd is
code_leaves_none (event.Create start layout) is = tt
code_leaves_none (event.Move from to) is = tt
code_leaves_none (event.NoOpt start reason) is = tt
code_leaves_none (event.Deopt start reason) is = tt
code_leaves_none (event.Delete start) is = tt

-- stamped events leave no file, where none of them does
numbered_none : (number ticks : ℕ) (events : List CodeEvent) → AllByRecursion LeavesNoFile events → AllByRecursion ItemLeavesNoFile (numbered number ticks events)
numbered_none number ticks [] each = tt
numbered_none number ticks (e ∷ events) each = (each.0, numbered_none (suc number) ticks events each.1)

code_none : (events : List CodeEvent) → AllByRecursion IsCodeEvent events → AllByRecursion LeavesNoFile events
code_none [] each = tt
code_none (e ∷ events) each = (code_leaves_none e each.0, code_none events each.1)

ticks_none : (ticks : List Tick) → AllByRecursion ItemLeavesNoFile (map (λ t. item.Tick t) ticks)
ticks_none [] = tt
ticks_none (t ∷ ticks) = (tt, ticks_none ticks)

short_none : (p : Progress) (events : List CodeEvent) (now : ℕ) → AllByRecursion LeavesNoFile events
    → AllByRecursion ItemLeavesNoFile (numbered p.events p.ticks (events ++ event.Finish (entry_time p now) false ∷ []))
short_none p events now each = numbered_none p.events p.ticks (events ++ event.Finish (entry_time p now) false ∷ []) (all_joined LeavesNoFile events (event.Finish (entry_time p now) false ∷ []) each (refl, tt))

marks_none : (p : Progress) (given : Command) (is_marked : Bool) (now : ℕ) → AllByRecursion LeavesNoFile (cut_marks p given is_marked now)
marks_none p (command.Start options) true now = (tt, tt)
marks_none p (command.Start options) false now = tt
marks_none p (command.Stop number) true now = tt
marks_none p (command.Stop number) false now = tt

-- an isolate that has ended stays so, for the same cause
ending_stays : (moment : Moment) (p : Progress) (phase last : Phase) (acts : List Act) → ¬ (p.ending ≡ None) → LeadTo moment p phase acts last → (progress_on moment p acts).ending ≡ p.ending
ending_stays moment p phase last [] ended lead = refl
ending_stays moment p phase last (act ∷ acts) ended lead =
    let same : act_after moment p act ≡ p = (nothing_follows moment p phase lead.0 act ended lead.1).1 in
    let still : (act_after moment p act).ending ≡ p.ending = ap (λ (q : Progress). q.ending) same in
    ending_stays (moment_after moment act) (act_after moment p act) lead.0 last acts (λ none. ended (sym still ∙ none)) lead.2 ∙ still

-- no end but out of memory
abbrev NoOther : Progress → Type 0
NoOther p = (why : EndCause) → p.ending ≡ Some why → why ≡ cause.Memory

-- where the isolate ends in no other way later, it does not in this act
no_other : (moment : Moment) (p : Progress) (phase last : Phase) (acts : List Act) → LeadTo moment p phase acts last → NoOther (progress_on moment p acts) → NoOther p
no_other moment p phase last acts lead none why is = none why (ending_stays moment p phase last acts (λ going. absurd (cc (going, is))) lead ∙ is)

end_none : (p : Progress) (now number ticks : ℕ) (why : EndCause) → why ≡ cause.Memory
    → AllByRecursion ItemLeavesNoFile (item.Event (record { number = number; ticks_before = ticks; event = event.Finish (entry_time p now) (leaves_files why) }) ∷ [])
end_none p now number ticks why is = (ap leaves_files is, tt)

act_none : (r : Options) (begun : Bool) (moment : Moment) (p : Progress) (phase next : Phase) (act : Act) → MayAct moment p phase act next → EachByClock r begun (act_calls moment p act)
    → NoOther (act_after moment p act) → AllByRecursion ItemLeavesNoFile (act_raises moment p act)
act_none r begun moment p (at_port port commands) next (passes from) may by none = tt
act_none r begun moment p (at_port port commands) next (starts options now is_taken) may by none = (tt, (tt, tt))
act_none r begun moment p (at_port port commands) next (stops from number now is_taken) may by none = absurd (cc ((given_is begun (from == 0) (command.Stop number) r by.0).start))
act_none r begun moment p (at_port port commands) next (refuses from given why is_taken) may by none = tt
act_none r begun moment p (at_port port commands) next (cuts_off from given is_marked now is_taken) may by none = short_none p (cut_marks p given is_marked now) now (marks_none p given is_marked now)
act_none r begun moment p asking next (asks is_asked) may by none = tt
act_none r begun moment p sampling next (samples now true) may by none = (tt, tt)
act_none r begun moment p sampling next (samples now false) may by none = tt
act_none r begun moment p stepping next (steps after events) may by none =
    all_joined ItemLeavesNoFile (numbered p.events p.ticks events) (map (λ t. item.Tick t) (given_up_ticks moment after p (length events)))
    (numbered_none p.events p.ticks events (code_none events may.1.of_code)) (ticks_none (given_up_ticks moment after p (length events)))
act_none r begun moment p stepping next (ends_short events now) may by none = short_none p events now (code_none events may.1)
act_none r begun moment p closing next (ends why now) may by none = end_none p now (suc p.events) p.ticks why (none why refl)
act_none r begun moment p (must_end later) next (ends why now) may by none = end_none p now (suc p.events) p.ticks why (none why refl)
act_none r begun moment p phase next act may by none = absurd may

run_none : (r : Options) (begun : Bool) (moment : Moment) (p : Progress) (phase last : Phase) (acts : List Act) → LeadTo moment p phase acts last → EachByClock r begun (calls_on moment p acts)
    → NoOther (progress_on moment p acts) → AllByRecursion ItemLeavesNoFile (raised_on moment p acts)
run_none r begun moment p phase last [] lead by none = tt
run_none r begun moment p phase last (act ∷ acts) lead by none =
    let then_ = moment_after moment act in
    let after = act_after moment p act in
    let calls = act_calls moment p act in
    let more = calls_on then_ after acts in
    all_joined ItemLeavesNoFile (act_raises moment p act) (raised_on then_ after acts)
    (act_none r begun moment p phase lead.0 act lead.1 (first_calls (IsByClock r) begun_after begun calls more by) (no_other then_ after lead.0 last acts lead.2 none))
    (run_none r (begun_on begun calls) then_ after lead.0 last acts lead.2 (later_calls (IsByClock r) begun_after begun calls more by) none)

pub no_file : TurnsLeaveNoFile
no_file r begun moment p acts last turn none = run_none r begun moment p (first_phase p) last acts turn.follow (each_by_clock r begun (calls_on moment p acts) turn.by_clock) none
