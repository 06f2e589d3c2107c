-- What comes with the end and after it.
use Rattle.std.proofs.Common.{◌≡◌, ℕ, ◌+◌, List, [], ◌∷◌, ◌++◌, length, refl, ap, ◌∙◌}
use Rattle.std.proofs.lemmas.List.{append-nil}
use Rattle.std.specs.Prelude.{Bool, true, false, Option, Some, None, unwrap_or, if◌then◌else◌}
use Rattle.std.specs.List.{AllByRecursion}
use Rattle.code_event.proofs.FilesGrow.{files_grow, open_seen}
use Rattle.code_event.proofs.SeenMore.{seen_more}
use Rattle.code_event.specs.CodeMap.{ranges, after_events}
use Rattle.code_event.specs.DeoptReasons.{DeoptReasons, no_reasons, reasons, reasons_after}
use Rattle.code_event.specs.FileLaws.{IsOpenItem, running_after}
use Rattle.code_event.specs.ItemFile.{ends_behind, files, files_of, item_files}
use Rattle.code_event.specs.MomentLaws.{events_of}
use Rattle.code_event.specs.Seen.{Seen, seen_behind, seen_items}
use Rattle.code_event.specs.declared.code_map.Range.{Range}
use Rattle.code_event.specs.declared.event.CodeEvent.{CodeEvent}
use Rattle.code_event.specs.declared.event.CodeEvent.TheVariants.{Finish}
use Rattle.code_event.specs.declared.event.Command.{Command}
use Rattle.code_event.specs.declared.event.Command.TheVariants as command
use Rattle.code_event.specs.declared.tick.Item.{Item}
use Rattle.isolate.specs.PlainFile.{leaves_files}
use Rattle.run_schedule.specs.declared.schedule.EndCause.{EndCause}
use Rattle.run_schedule.specs.declared.schedule.EndCause.TheVariants as cause
use Rattle.raised_so_far.proofs.Items.{code_is_not_seen}
use Rattle.raised_so_far.specs.ItemsSoFar.{IsCodeEvent}
use Rattle.isolate_acts.proofs.ActsStand.{as_going}
use Rattle.isolate_acts.proofs.Stamped.{numbered-append, numbered_code}
use Rattle.isolate_acts.specs.ActLaws.{EndsOutOfMemoryAddNoFile, NothingFollowsTheEnd}
use Rattle.isolate_acts.specs.Acts.{passes, starts, stops, refuses, cuts_off, asks, samples, steps, ends, ends_short, act_raises, cut_marks, numbered, raised_short}
use Rattle.isolate_acts.specs.Phases.{at_port, asking, sampling, stepping, closing, must_end}
use Rattle.isolate_acts.specs.Progress.{Moment, Progress, entry_time}

-- items that end no session add no file
no_more_files : (base : ℕ) (raised more : List Item) → AllByRecursion IsOpenItem raised
    → ends_behind (running_after raised) (seen_behind (ranges (events_of raised)) (reasons (events_of raised)) more) ≡ []
    → item_files base (raised ++ more) ≡ item_files base raised
no_more_files base raised more unfinished none =
    let before : List Seen = seen_items raised in
    let rest : List Seen = seen_behind (ranges (events_of raised)) (reasons (events_of raised)) more in
    ap (λ (seen : List Seen). files base seen) (seen_more [] no_reasons raised more)
    ∙ files_grow base before rest (open_seen [] no_reasons raised unfinished)
    ∙ ap (λ (numbers : List ℕ). files base before ++ files_of base (before ++ rest) numbers) none
    ∙ append-nil (files base before)

-- events of the code and a finish without files end no session
code_ends_none : (running : List ℕ) (at : List Range) (why : DeoptReasons) (number ticks time : ℕ) (events : List CodeEvent) → AllByRecursion IsCodeEvent events
    → ends_behind running (seen_behind at why (numbered number ticks (events ++ Finish time false ∷ []))) ≡ []
code_ends_none running at why number ticks time events code =
    let items : List Item = numbered number ticks events in
    let last : List Item = numbered (number + length events) ticks (Finish time false ∷ []) in
    ap (λ (all : List Item). ends_behind running (seen_behind at why all)) (numbered-append number ticks events (Finish time false ∷ []))
    ∙ ap (ends_behind running) (seen_more at why items last ∙ ap (λ (seen : List Seen). seen ++ seen_behind (after_events at (events_of items)) (reasons_after at why (events_of items)) last) (code_is_not_seen at why items (numbered_code number ticks events code)))

-- so does a start's mark
marks_end_none : (running : List ℕ) (at : List Range) (why : DeoptReasons) (p : Progress) (given : Command) (is_marked : Bool) (now : ℕ)
    → ends_behind running (seen_behind at why (raised_short p (cut_marks p given is_marked now) now)) ≡ []
marks_end_none running at why p (command.Start options) true now = refl
marks_end_none running at why p (command.Start options) false now = refl
marks_end_none running at why p (command.Stop number) is_marked now = refl

ends_none : (running : List ℕ) (at : List Range) (why : DeoptReasons) (moment : Moment) (p : Progress) (end : EndCause) (now : ℕ) → Some end ≡ Some cause.Memory
    → ends_behind running (seen_behind at why (act_raises moment p (ends end now))) ≡ []
ends_none running at why moment p end now is =
    let same : end ≡ cause.Memory = ap (λ (o : Option EndCause). unwrap_or o end) is in
    ap (λ (b : Bool). if b then running else []) (ap leaves_files same)

-- an isolate that goes on does not end out of memory
not_ended : {A : Type 0} (ending : Option EndCause) → ending ≡ None → ending ≡ Some cause.Memory → A
not_ended ending going is = absurd (cc (going, is))

pub no_file : EndsOutOfMemoryAddNoFile
no_file funcs moment p (at_port port commands) next (cuts_off from given is_marked now is_taken) raised stands may ends_so =
    let going = as_going funcs moment p raised may.1 stands in
    no_more_files p.schedule.base raised (raised_short p (cut_marks p given is_marked now) now) going.raised_is.unfinished
    (marks_end_none (running_after raised) (ranges (events_of raised)) (reasons (events_of raised)) p given is_marked now)
no_file funcs moment p (at_port port commands) next (passes from) raised stands may ends_so = ap (item_files p.schedule.base) (append-nil raised)
no_file funcs moment p (at_port port commands) next (refuses from given answer is_taken) raised stands may ends_so = ap (item_files p.schedule.base) (append-nil raised)
no_file funcs moment p (at_port port commands) next (starts options now is_taken) raised stands may ends_so = not_ended p.ending may.1 ends_so
no_file funcs moment p (at_port port commands) next (stops from number now is_taken) raised stands may ends_so = not_ended p.ending may.1 ends_so
no_file funcs moment p asking next (asks is_asked) raised stands may ends_so = ap (item_files p.schedule.base) (append-nil raised)
no_file funcs moment p sampling next (samples now true) raised stands may ends_so = not_ended p.ending may.0 ends_so
no_file funcs moment p sampling next (samples now false) raised stands may ends_so = not_ended p.ending may.0 ends_so
no_file funcs moment p stepping next (steps after events) raised stands may ends_so = not_ended p.ending may.0 ends_so
no_file funcs moment p stepping next (ends_short events now) raised stands may ends_so =
    let going = as_going funcs moment p raised may.0.going stands in
    no_more_files p.schedule.base raised (raised_short p events now) going.raised_is.unfinished
    (code_ends_none (running_after raised) (ranges (events_of raised)) (reasons (events_of raised)) p.events p.ticks (entry_time p now) events may.1)
no_file funcs moment p closing next (ends why now) raised stands may ends_so =
    let going = as_going funcs moment p raised may.0.going stands in
    no_more_files p.schedule.base raised (act_raises moment p (ends why now)) going.raised_is.unfinished
    (ends_none (running_after raised) (ranges (events_of raised)) (reasons (events_of raised)) moment p why now ends_so)
no_file funcs moment p (must_end later) next (ends why now) raised stands may ends_so =
    let going = as_going funcs moment p raised may.0.going stands in
    no_more_files p.schedule.base raised (act_raises moment p (ends why now)) going.raised_is.unfinished
    (ends_none (running_after raised) (ranges (events_of raised)) (reasons (events_of raised)) moment p why now ends_so)
no_file funcs moment p phase next act raised stands may ends_so = absurd may

pub nothing_follows : NothingFollowsTheEnd
nothing_follows moment p (at_port port commands) next (passes from) ended may = (refl, refl)
nothing_follows moment p (at_port port commands) next (refuses from given answer is_taken) ended may = (refl, refl)
nothing_follows moment p (at_port port commands) next (starts options now is_taken) ended may = absurd (ended may.1)
nothing_follows moment p (at_port port commands) next (stops from number now is_taken) ended may = absurd (ended may.1)
nothing_follows moment p (at_port port commands) next (cuts_off from given is_marked now is_taken) ended may = absurd (ended may.1)
nothing_follows moment p asking next (asks is_asked) ended may = absurd (ended may.0)
nothing_follows moment p sampling next (samples now is_in) ended may = absurd (ended may.0)
nothing_follows moment p stepping next (steps after events) ended may = absurd (ended may.0)
nothing_follows moment p stepping next (ends_short events now) ended may = absurd (ended may.0.going)
nothing_follows moment p closing next (ends why now) ended may = absurd (ended may.0.going)
nothing_follows moment p (must_end later) next (ends why now) ended may = absurd (ended may.0.going)
nothing_follows moment p phase next act ended may = absurd may
