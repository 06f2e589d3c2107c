-- Why functions are not optimised: the deopt reasons of entries, after the events so far.
use Rattle.std.specs.Prelude.{ℕ, List, [], ◌∷◌, Option, Some, None, option_and_then, if◌then◌else◌}
use Rattle.std.specs.Option.{option_map_or}
use Rattle.code_event.specs.CodeMap.{after_event, range_at, range_entry, same_entry}
use Rattle.code_event.specs.declared.code_map.Range.{Range}
use Rattle.code_event.specs.declared.entry.Entry.{Entry}
use Rattle.code_event.specs.declared.seen.DeoptReason.{DeoptReason}
use Rattle.code_event.specs.declared.event.CodeEvent.{CodeEvent}
use Rattle.code_event.specs.declared.event.CodeEvent.TheVariants.{Create, Move, NoOpt, Deopt, Delete, Start, Stop, Finish}

-- the latest reason of an entry, if there is one
abbrev pub DeoptReasons : Type 0
DeoptReasons = Entry → Option (List ℕ)

-- no entry has a reason
abbrev pub no_reasons : DeoptReasons
no_reasons entry = None

-- the entry has this reason from now on
abbrev pub with_reason : DeoptReasons → List ℕ → Entry → DeoptReasons
with_reason reasons reason entry = λ other. if same_entry other entry then Some reason else reasons other

-- the entry of the range that starts at this address has this reason from now on
abbrev pub with_reason_at : List Range → DeoptReasons → ℕ → List ℕ → DeoptReasons
with_reason_at ranges reasons start reason = option_map_or (with_reason reasons reason) (option_and_then range_entry (range_at ranges start)) reasons

-- the reasons after an event, by the ranges before it
abbrev pub reasons_after_event : List Range → DeoptReasons → CodeEvent → DeoptReasons
reasons_after_event ranges reasons (NoOpt start reason) = with_reason_at ranges reasons start reason
reasons_after_event ranges reasons (Deopt start reason) = with_reason_at ranges reasons start reason
reasons_after_event ranges reasons (Create start layout) = reasons
reasons_after_event ranges reasons (Move from to) = reasons
reasons_after_event ranges reasons (Delete start) = reasons
reasons_after_event ranges reasons (Start session options time) = reasons
reasons_after_event ranges reasons (Stop session time) = reasons
reasons_after_event ranges reasons (Finish time files) = reasons

-- the reasons after more events
abbrev pub reasons_after : List Range → DeoptReasons → List CodeEvent → DeoptReasons
reasons_after ranges reasons [] = reasons
reasons_after ranges reasons (event ∷ events) = reasons_after (after_event ranges event) (reasons_after_event ranges reasons event) events

-- the reasons that a list gives: the first of an entry counts
abbrev pub reasons_in : List DeoptReason → DeoptReasons
reasons_in [] = no_reasons
reasons_in (reason ∷ reasons) = with_reason (reasons_in reasons) reason.reason reason.entry

-- the reasons after these events
abbrev pub reasons : List CodeEvent → DeoptReasons
reasons events = reasons_after [] no_reasons events
