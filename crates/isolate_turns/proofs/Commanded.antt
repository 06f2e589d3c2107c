-- The acts of a port's commands, from what the calls say of them.
use Rattle.std.proofs.Common.{◌≡◌, ℕ, suc, ◌+◌, ◌<◌, ◌≤◌, List, [], ◌∷◌, ◌++◌, length, length-append, true, false, refl, ap, sym, subst, ◌∙◌, arith}
use Rattle.std.specs.Prelude.{Bool, Option, Some, None}
use mir.Val.{bool_byte}
use Rattle.prof_base.specs.declared.ids.SessionId.{SessionId}
use Rattle.code_event.specs.declared.event.Answer.{Answer}
use Rattle.code_event.specs.declared.event.Answer.TheVariants as answer
use Rattle.code_event.specs.declared.event.CodeEvent.{CodeEvent}
use Rattle.code_event.specs.declared.event.CodeEvent.TheVariants as event
use Rattle.code_event.specs.declared.event.Command.{Command}
use Rattle.code_event.specs.declared.event.Command.TheVariants as command
use Rattle.code_event.specs.declared.event.EventRecord.{EventRecord}
use Rattle.code_event.specs.declared.event.Options.{Options}
use Rattle.code_event.specs.declared.event.TheConstants.{MAX_SESSIONS}
use Rattle.code_event.specs.declared.tick.Item.TheVariants as item
use Rattle.code_event.specs.declared.tick.Tick.{Tick}
use Rattle.run_schedule.specs.Schedule.{HasSession}
use Rattle.run_schedule.specs.declared.limits.TheConstants.{MAX_PORT}
use Rattle.run_schedule.specs.declared.schedule.EndCause.{EndCause}
use Rattle.run_schedule.specs.declared.schedule.EndCause.TheVariants as cause
use Rattle.run_schedule.specs.declared.schedule.ScheduleEntry.{ScheduleEntry}
use Rattle.run_schedule.specs.declared.schedule.What.TheVariants as what
use Rattle.isolate_acts.specs.Acts.{act_after, act_raises, after_short, cut_marks, cuts_off, numbered, refuses, starts, stops}
use Rattle.isolate_acts.specs.Calls.{Call, answered, commanded, read, told, with_calls}
use Rattle.isolate_acts.specs.Phases.{HasRoom, IsLegalCommand, IsRefused, after_command, unless_ended}
use Rattle.isolate_acts.specs.Progress.{Moment, Progress, entry_count, entry_now, entry_time, next_session, running_now, source_now, with_entry}
use Rattle.isolate_ends.proofs.Queued.{calls_twice, have_both, have_next, have_none}
use Rattle.isolate_ends.specs.Queues.{Shown, HaveMore}
use Rattle.isolate_ends.specs.Runs.{Adds, Obeys, Stays, whole}

-- one event, which is the one that was meant
pub event_raised : (before after : Shown) (mark meant : EventRecord) → mark ≡ meant → HaveMore before after (item.Event mark ∷ []) → HaveMore before after (item.Event meant ∷ [])
event_raised before after mark meant mark_is one = subst (λ (e : EventRecord). HaveMore before after (item.Event e ∷ [])) mark_is one

-- the event and the tick of a start
pub start_raised : (before between after : Shown) (mark meant : EventRecord) (tick wanted : Tick) → mark ≡ meant → tick ≡ wanted
    → HaveMore before between (item.Event mark ∷ []) → HaveMore between after (item.Tick tick ∷ []) → HaveMore before after (item.Event meant ∷ item.Tick wanted ∷ [])
start_raised before between after mark meant tick wanted mark_is tick_is one other =
    subst (λ (e : EventRecord). HaveMore before after (item.Event e ∷ item.Tick wanted ∷ [])) mark_is
    (subst (λ (t : Tick). HaveMore before after (item.Event mark ∷ item.Tick t ∷ [])) tick_is (have_both before between after (item.Event mark ∷ []) (item.Tick tick ∷ []) one other))

-- calls that follow others
pub calls_then : (first between last : Option (List Call)) (one other : List Call) → between ≡ with_calls first one → last ≡ with_calls between other → last ≡ with_calls first (one ++ other)
calls_then first between last one other one_is other_is = other_is ∙ ap (λ z. with_calls z other) one_is ∙ calls_twice first one other

-- a command and a reading of the clock
read_calls : (calls given now_read : Option (List Call)) (port step reached now : ℕ) (c : Command) → reached ≡ step → given ≡ with_calls calls (commanded port step (Some c) ∷ [])
    → now_read ≡ with_calls given (read reached now ∷ []) → now_read ≡ with_calls calls (commanded port step (Some c) ∷ read step now ∷ [])
read_calls calls given now_read port step reached now c reached_is given_is read_is =
    calls_then calls given now_read (commanded port step (Some c) ∷ []) (read reached now ∷ []) given_is read_is
    ∙ ap (λ (n : ℕ). with_calls calls (commanded port step (Some c) ∷ read n now ∷ [])) reached_is

-- a session is started
pub starts_obey : (moment : Moment) (p mid q : Progress) (calls given now_read last : Option (List Call)) (before after : Shown) (options : Options) (reached now : ℕ) (session : SessionId)
    (is_taken : Bool) → p.ending ≡ None → length (running_now p) < MAX_SESSIONS → HasRoom p → options.port ≤ MAX_PORT
    → mid ≡ p → reached ≡ p.step → session ≡ next_session mid
    → q ≡ record (with_entry mid (entry_now mid now (what.Start options))) { events = suc mid.events; ticks = suc mid.ticks }
    → given ≡ with_calls calls (commanded options.port p.step (Some (command.Start options)) ∷ [])
    → now_read ≡ with_calls given (read reached now ∷ [])
    → last ≡ with_calls now_read (told (source_now q) ∷ answered options.port (answer.Started session) (entry_count q) is_taken ∷ [])
    → HaveMore before after (act_raises moment p (starts options now is_taken))
    → Obeys (whole moment p calls before) (whole moment q last after) options.port is_taken
starts_obey moment p mid q calls given now_read last before after options reached now session is_taken going few room exists mid_is reached_is session_is q_mid given_is read_is last_is queues =
    let port = options.port in
    let ours = commanded port p.step (Some (command.Start options)) in
    let q_is : q ≡ act_after moment p (starts options now is_taken) =
    q_mid ∙ ap (λ (s : Progress). record (with_entry s (entry_now s now (what.Start options))) { events = suc s.events; ticks = suc s.ticks }) mid_is in
    let number_is : session ≡ next_session p = session_is ∙ ap next_session mid_is in
    record {
      act = starts options now is_taken;
      may = λ commands more. (record { port_is = refl; exists = exists; more = more }, going, few, room, ap (λ (s : Progress). unless_ended s is_taken (after_command s port (suc commands))) q_is);
      does = record {
        moment = refl;
        progress = q_is;
        calls =
            calls_then calls now_read last (ours ∷ read p.step now ∷ []) (told (source_now q) ∷ answered port (answer.Started session) (entry_count q) is_taken ∷ [])
            (read_calls calls given now_read port p.step reached now (command.Start options) reached_is given_is read_is) last_is
            ∙ ap (λ (s : SessionId). with_calls calls (ours ∷ read p.step now ∷ told (source_now q) ∷ answered port (answer.Started s) (entry_count q) is_taken ∷ [])) number_is
            ∙ ap (λ (s : Progress). with_calls calls (ours ∷ read p.step now ∷ told (source_now s) ∷ answered port (answer.Started (next_session p)) (entry_count s) is_taken ∷ [])) q_is;
        queues = queues;
      };
    }

-- a session is stopped
pub stops_obey : (moment : Moment) (p q : Progress) (calls given now_read last : Option (List Call)) (before after : Shown) (port : ℕ) (number : SessionId) (reached now : ℕ)
    (is_taken : Bool) → p.ending ≡ None → HasSession (running_now p) (what.Stop port number) → HasRoom p → port ≤ MAX_PORT → reached ≡ p.step
    → q ≡ record (with_entry p (entry_now p now (what.Stop port number))) { events = suc p.events }
    → given ≡ with_calls calls (commanded port p.step (Some (command.Stop number)) ∷ [])
    → now_read ≡ with_calls given (read reached now ∷ [])
    → last ≡ with_calls now_read (told (source_now q) ∷ answered port answer.Stopped (entry_count q) is_taken ∷ [])
    → HaveMore before after (act_raises moment p (stops port number now is_taken))
    → Obeys (whole moment p calls before) (whole moment q last after) port is_taken
stops_obey moment p q calls given now_read last before after port number reached now is_taken going runs room exists reached_is q_is given_is read_is last_is queues =
    let ours = commanded port p.step (Some (command.Stop number)) in
    record {
      act = stops port number now is_taken;
      may = λ commands more. (record { port_is = refl; exists = exists; more = more }, going, runs, room, ap (λ (s : Progress). unless_ended s is_taken (after_command s port (suc commands))) q_is);
      does = record {
        moment = refl;
        progress = q_is;
        calls =
            calls_then calls now_read last (ours ∷ read p.step now ∷ []) (told (source_now q) ∷ answered port answer.Stopped (entry_count q) is_taken ∷ [])
            (read_calls calls given now_read port p.step reached now (command.Stop number) reached_is given_is read_is) last_is
            ∙ ap (λ (s : Progress). with_calls calls (ours ∷ read p.step now ∷ told (source_now s) ∷ answered port answer.Stopped (entry_count s) is_taken ∷ [])) q_is;
        queues = queues;
      };
    }

one_entry : (entries : List ScheduleEntry) (e : ScheduleEntry) → length (entries ++ e ∷ []) ≡ suc (length entries)
one_entry entries e = let many = length-append entries (e ∷ []) in omega arith

-- a command finds no memory: the isolate ends
pub cut_off_obeys : (moment : Moment) (p mid q : Progress) (calls given now_read ended last : Option (List Call)) (before between after : Shown) (port : ℕ) (c : Command) (is_marked : Bool)
    (reached now raised : ℕ) (is_taken : Bool) → p.ending ≡ None → IsLegalCommand p port c → HasRoom p → port ≤ MAX_PORT
    → mid ≡ p → reached ≡ p.step → length (cut_marks p c is_marked now) ≡ raised
    → ((events : List CodeEvent) → length events ≡ raised → q ≡ after_short mid events now)
    → given ≡ with_calls calls (commanded port p.step (Some c) ∷ [])
    → now_read ≡ with_calls given (read reached now ∷ [])
    → ended ≡ with_calls now_read (told 0 ∷ [])
    → last ≡ with_calls ended (answered port answer.Ended (entry_count q) is_taken ∷ [])
    → HaveMore before between (numbered p.events p.ticks (cut_marks p c is_marked now))
    → HaveMore between after (item.Event (record { number = suc (mid.events + raised); ticks_before = mid.ticks; event = event.Finish (entry_time mid now) false }) ∷ [])
    → Obeys (whole moment p calls before) (whole moment q last after) port is_taken
cut_off_obeys moment p mid q calls given now_read ended last before between after port c is_marked reached now raised is_taken going legal room exists mid_is reached_is many q_mid given_is read_is ended_is last_is had finish =
    let marks = cut_marks p c is_marked now in
    let ours = commanded port p.step (Some c) in
    let q_is : q ≡ after_short p marks now = q_mid marks many ∙ ap (λ (s : Progress). after_short s marks now) mid_is in
    let place_is : entry_count q ≡ suc (entry_count p) = ap entry_count q_is ∙ one_entry p.schedule.entries (entry_now p now (what.End cause.Memory)) in
    record {
      act = cuts_off port c is_marked now is_taken;
      may = λ commands more. (record { port_is = refl; exists = exists; more = more }, going, legal, room, ap (λ (s : Progress). unless_ended s is_taken (after_command s port (suc commands))) q_is);
      does = record {
        moment = refl;
        progress = q_is;
        calls =
            calls_then calls ended last (ours ∷ read p.step now ∷ told 0 ∷ []) (answered port answer.Ended (entry_count q) is_taken ∷ [])
            (calls_then calls now_read ended (ours ∷ read p.step now ∷ []) (told 0 ∷ []) (read_calls calls given now_read port p.step reached now c reached_is given_is read_is) ended_is) last_is
            ∙ ap (λ (n : ℕ). with_calls calls (ours ∷ read p.step now ∷ told 0 ∷ answered port answer.Ended n is_taken ∷ [])) place_is;
        queues =
            have_next before between after p.events p.ticks marks (event.Finish (entry_time p now) false) had
            (subst (λ (n : ℕ). HaveMore between after (item.Event (record { number = suc (p.events + n); ticks_before = p.ticks; event = event.Finish (entry_time p now) false }) ∷ [])) (sym many)
            (subst (λ (s : Progress). HaveMore between after (item.Event (record { number = suc (s.events + raised); ticks_before = s.ticks; event = event.Finish (entry_time s now) false }) ∷ [])) mid_is finish));
      };
    }

-- what a start that found no memory had raised
pub marks_are : (p : Progress) (options : Options) (is_marked : Bool) (now : ℕ) → length (cut_marks p (command.Start options) is_marked now) ≡ bool_byte is_marked
marks_are p options true now = refl
marks_are p options false now = refl

-- a command is refused
pub refused_obeys : (moment : Moment) (p : Progress) (calls given last : Option (List Call)) (before : Shown) (port : ℕ) (c : Command) (why : Answer) (is_taken : Bool) → port ≤ MAX_PORT
    → IsRefused p port c why → given ≡ with_calls calls (commanded port p.step (Some c) ∷ []) → last ≡ with_calls given (answered port why (entry_count p) is_taken ∷ [])
    → Obeys (whole moment p calls before) (whole moment p last before) port is_taken
refused_obeys moment p calls given last before port c why is_taken exists refused given_is last_is = record {
  act = refuses port c why is_taken;
  may = λ commands more. (record { port_is = refl; exists = exists; more = more }, refused, refl);
  does = record {
    moment = refl;
    progress = refl;
    calls = calls_then calls given last (commanded port p.step (Some c) ∷ []) (answered port why (entry_count p) is_taken ∷ []) given_is last_is;
    queues = have_none before before refl;
  };
}

-- what is left where the isolate has ended
pub ended_stays : (p q : Progress) (why : EndCause) → q.step ≡ p.step → q.schedule.budget ≡ p.schedule.budget → q.schedule.limit ≡ p.schedule.limit → q.is_sampled ≡ p.is_sampled
    → q.ending ≡ Some why → Adds p.schedule.entries q.schedule.entries 0 → Stays p q
ended_stays p q why step budget limit is_sampled ended adds = record {
  step = step;
  budget = budget;
  limit = limit;
  is_sampled = is_sampled;
  going = λ none. absurd (cc (sym none ∙ ended));
  place = λ none. absurd (cc (sym none ∙ ended));
  adds = adds;
}

pub short_stays : (p mid q : Progress) (events : List CodeEvent) (now : ℕ) → mid ≡ p → q ≡ after_short mid events now → Adds mid.schedule.entries q.schedule.entries 0 → Stays p q
short_stays p mid q events now mid_is q_mid adds =
    let q_is : q ≡ after_short p events now = q_mid ∙ ap (λ (s : Progress). after_short s events now) mid_is in
    ended_stays p q cause.Memory (ap (λ (s : Progress). s.step) q_is) (ap (λ (s : Progress). s.schedule.budget) q_is) (ap (λ (s : Progress). s.schedule.limit) q_is)
    (ap (λ (s : Progress). s.is_sampled) q_is) (ap (λ (s : Progress). s.ending) q_is) (subst (λ (s : Progress). Adds s.schedule.entries q.schedule.entries 0) mid_is adds)
