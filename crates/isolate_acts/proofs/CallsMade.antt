-- The calls of acts at the ports.
use Rattle.std.proofs.Common.{◌≡◌, ℕ, ◌+◌, List, [], ◌∷◌, ◌++◌, length, length-append, refl, ap, sym, ◌∙◌, arith}
use Rattle.std.proofs.lemmas.List.Sums.{sum_by-append}
use Rattle.std.specs.Prelude.{Bool, true, false, Option, None, cond, count_by, is_none, if◌then◌else◌}
use Rattle.run_schedule.specs.Schedule.{Course, none_yet, course_after, course_on, running_after}
use Rattle.run_schedule.specs.Source.{source_for}
use Rattle.run_schedule.specs.declared.schedule.EndCause.{EndCause}
use Rattle.run_schedule.specs.declared.schedule.ScheduleEntry.{ScheduleEntry}
use Rattle.run_schedule.specs.declared.schedule.What.TheVariants as what
use Rattle.isolate.proofs.EntriesMore.{course_on-push}
use Rattle.isolate_acts.specs.Acts.{Act, passes, starts, stops, refuses, cuts_off, asks, samples, steps, ends, ends_short, act_after, act_calls, calls_on, moment_after}
use Rattle.isolate_acts.specs.CallLaws.{EachCommandIsAnswered, EachEntryHasAReading, PortsKnowTheInterval, interval_after, is_answer, is_command, is_reading, sampling_interval}
use Rattle.isolate_acts.specs.Calls.{Call, commanded, answered, asked, read, told}
use Rattle.isolate_acts.specs.Phases.{Phase, at_port, asking, sampling, stepping, closing, must_end, MayAct}
use Rattle.isolate_acts.specs.Progress.{Moment, Progress, entry_count, entry_now, goes_on, source_now}

count_by-append : (test : Call → Bool) (one other : List Call) → count_by test (one ++ other) ≡ count_by test one + count_by test other
count_by-append test one other = sum_by-append (λ call. cond (test call) 1 0) one other

one_more : (entries : List ScheduleEntry) (entry : ScheduleEntry) → length (entries ++ entry ∷ []) ≡ length entries + 1
one_more entries entry = length-append entries (entry ∷ [])

act_reads : (moment : Moment) (p : Progress) (act : Act) → entry_count (act_after moment p act) ≡ entry_count p + count_by is_reading (act_calls moment p act)
act_reads moment p (passes port) = omega arith
act_reads moment p (starts options now is_taken) = one_more p.schedule.entries (entry_now p now (what.Start options))
act_reads moment p (stops port number now is_taken) = one_more p.schedule.entries (entry_now p now (what.Stop port number))
act_reads moment p (refuses port given answer is_taken) = omega arith
act_reads moment p (cuts_off port given is_marked now is_taken) = one_more p.schedule.entries _
act_reads moment p (asks is_asked) = omega arith
act_reads moment p (samples now true) = one_more p.schedule.entries (entry_now p now what.Sampled)
act_reads moment p (samples now false) = one_more p.schedule.entries (entry_now p now what.Dropped)
act_reads moment p (steps after events) = omega arith
act_reads moment p (ends why now) = one_more p.schedule.entries (entry_now p now (what.End why))
act_reads moment p (ends_short events now) = one_more p.schedule.entries _

pub readings : EachEntryHasAReading
readings moment p [] = omega arith
readings moment p (act ∷ acts) =
    let then_ = moment_after moment act in
    let after = act_after moment p act in
    let one = act_reads moment p act in
    let rest = readings then_ after acts in
    let all = count_by-append is_reading (act_calls moment p act) (calls_on then_ after acts) in
    omega (arith, one, rest, all)

act_answers : (moment : Moment) (p : Progress) (act : Act) → count_by is_command (act_calls moment p act) ≡ count_by is_answer (act_calls moment p act)
act_answers moment p (passes port) = refl
act_answers moment p (starts options now is_taken) = refl
act_answers moment p (stops port number now is_taken) = refl
act_answers moment p (refuses port given answer is_taken) = refl
act_answers moment p (cuts_off port given is_marked now is_taken) = refl
act_answers moment p (asks is_asked) = refl
act_answers moment p (samples now is_in) = refl
act_answers moment p (steps after events) = refl
act_answers moment p (ends why now) = refl
act_answers moment p (ends_short events now) = refl

pub answers : EachCommandIsAnswered
answers moment p [] = refl
answers moment p (act ∷ acts) =
    let then_ = moment_after moment act in
    let after = act_after moment p act in
    let one = act_answers moment p act in
    let rest = answers then_ after acts in
    let commands = count_by-append is_command (act_calls moment p act) (calls_on then_ after acts) in
    let answered_ = count_by-append is_answer (act_calls moment p act) (calls_on then_ after acts) in
    omega (arith, one, rest, commands, answered_)

interval_after-append : (interval : ℕ) (one other : List Call) → interval_after interval (one ++ other) ≡ interval_after (interval_after interval one) other
interval_after-append interval [] other = refl
interval_after-append interval (told next ∷ one) other = interval_after-append next one other
interval_after-append interval (commanded port step command ∷ one) other = interval_after-append interval one other
interval_after-append interval (answered port answer place is_taken ∷ one) other = interval_after-append interval one other
interval_after-append interval (asked step is_asked ∷ one) other = interval_after-append interval one other
interval_after-append interval (read step now ∷ one) other = interval_after-append interval one other

-- while the isolate goes on it is the source interval
while_going : (p : Progress) → p.ending ≡ None → source_now p ≡ sampling_interval p
while_going p going = ap (λ (e : Option EndCause). if is_none e then source_now p else 0) (sym going)

-- an entry that leaves the sessions leaves it
still : (p : Progress) (entry : ScheduleEntry) → course_after (course_on none_yet p.schedule.entries) entry.what ≡ course_on none_yet p.schedule.entries
    → sampling_interval p ≡ (if goes_on p then source_for p.schedule.base (running_after (p.schedule.entries ++ entry ∷ [])) else 0)
still p entry same =
    ap (λ (c : Course). if goes_on p then source_for p.schedule.base c.running else 0) (sym (course_on-push none_yet p.schedule.entries entry ∙ same))

act_tells : (moment : Moment) (p : Progress) (phase next : Phase) (act : Act) → MayAct moment p phase act next → interval_after (sampling_interval p) (act_calls moment p act) ≡ sampling_interval (act_after moment p act)
act_tells moment p (at_port port commands) next (passes from) may = refl
act_tells moment p (at_port port commands) next (starts options now is_taken) may = while_going (act_after moment p (starts options now is_taken)) may.1
act_tells moment p (at_port port commands) next (stops from number now is_taken) may = while_going (act_after moment p (stops from number now is_taken)) may.1
act_tells moment p (at_port port commands) next (refuses from given answer is_taken) may = refl
act_tells moment p (at_port port commands) next (cuts_off from given is_marked now is_taken) may = refl
act_tells moment p asking next (asks is_asked) may = refl
act_tells moment p sampling next (samples now true) may = still p (entry_now p now what.Sampled) refl
act_tells moment p sampling next (samples now false) may = still p (entry_now p now what.Dropped) refl
act_tells moment p stepping next (steps after events) may = refl
act_tells moment p stepping next (ends_short events now) may = refl
act_tells moment p closing next (ends why now) may = refl
act_tells moment p (must_end later) next (ends why now) may = refl
act_tells moment p phase next act may = absurd may

pub interval : PortsKnowTheInterval
interval moment p phase last [] lead = refl
interval moment p phase last (act ∷ acts) lead =
    let then_ = moment_after moment act in
    let after = act_after moment p act in
    interval_after-append (sampling_interval p) (act_calls moment p act) (calls_on then_ after acts)
    ∙ ap (λ (n : ℕ). interval_after n (calls_on then_ after acts)) (act_tells moment p phase lead.0 act lead.1) ∙ interval then_ after lead.0 last acts lead.2
