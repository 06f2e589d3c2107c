-- The reason of an entry in a list of reasons.
use Rattle.std.proofs.Common.{◌≡◌, ℕ, ◌+◌, ◌<◌, List, [], ◌∷◌, ◌++◌, length, map, take, drop, get_or, set, refl, ap, sym, ◌∙◌}
use Rattle.std.specs.Prelude.{Bool, true, false, cond, find, Option, Some, None, option_map, option_and_then}
use Rattle.std.specs.Option.{option_map_or}
use Rattle.std.proofs.lemmas.List.Edits.{map_over_more}
use Rattle.code_event.specs.CodeMap.{same_entry, range_at, range_entry}
use Rattle.code_event.specs.DeoptReasons.{DeoptReasons, reasons_in, with_reason, reasons_after_event}
use Rattle.code_event.specs.declared.code_map.Range.{Range}
use Rattle.code_event.specs.declared.event.CodeEvent.{CodeEvent}
use Rattle.code_event.specs.declared.event.CodeEvent.TheVariants.{Create, Move, NoOpt, Deopt, Delete, Start, Stop, Finish}
use Rattle.code_event.specs.declared.entry.Entry.{Entry}
use Rattle.code_event.specs.declared.profile.FinNode.{FinNode}
use Rattle.code_event.specs.declared.seen.DeoptReason.{DeoptReason}
use Rattle.code_map.specs.CodeMap.{node_with_reason}

reason_if : (latest : DeoptReason) (found : Option DeoptReason) (others : Option (List ℕ)) (b : Bool) → others ≡ option_map (λ r. r.reason) found → cond b (Some latest.reason) others ≡ option_map (λ r. r.reason) (cond b (Some latest) found)
reason_if latest found others true same = refl
reason_if latest found others false same = same

-- it is that of the first that is said of the entry
pub reasons_in-find : (reasons : List DeoptReason) (entry : Entry) → reasons_in reasons entry ≡ option_map (λ r. r.reason) (find (λ r. same_entry entry r.entry) reasons)
reasons_in-find [] entry = refl
reasons_in-find (latest ∷ reasons) entry =
    reason_if latest (find (λ r. same_entry entry r.entry) reasons) (reasons_in reasons entry) (same_entry entry latest.entry) (reasons_in-find reasons entry)

-- one node more has the reason of its entry
pub node_filled : (reasons : DeoptReasons) (nodes filled : List FinNode) (at : ℕ) (node : FinNode) (reason : Option (List ℕ)) → at < length nodes
    → filled ≡ map (node_with_reason reasons) (take at nodes) ++ drop at nodes → node ≡ get_or filled at node → reason ≡ reasons (get_or filled at node).entry
    → set filled at (record (get_or filled at node) { reason = reason }) ≡ map (node_with_reason reasons) (take (at + 1) nodes) ++ drop (at + 1) nodes
node_filled reasons nodes filled at node reason within before is given =
    ap (λ r. set filled at (record (get_or filled at node) { reason = r })) given ∙ ap (λ n. set filled at (node_with_reason reasons n)) (sym is)
    ∙ map_over_more (node_with_reason reasons) nodes filled at node within before is

-- the same reasons give the same nodes
pub nodes_filled : (one other : DeoptReasons) (nodes : List FinNode) → ((entry : Entry) → one entry ≡ other entry) → map (node_with_reason one) nodes ≡ map (node_with_reason other) nodes
nodes_filled one other [] same = refl
nodes_filled one other (node ∷ nodes) same = ap (λ r. record node { reason = r } ∷ map (node_with_reason one) nodes) (same node.entry) ∙ ap (λ ns. node_with_reason other node ∷ ns) (nodes_filled one other nodes same)

reason_alike : (one other : Option (List ℕ)) (reason : List ℕ) (b : Bool) → one ≡ other → cond b (Some reason) one ≡ cond b (Some reason) other
reason_alike one other reason b same = ap (cond b (Some reason)) same

reasons_alike_at : (named : Option Entry) (one other : DeoptReasons) (reason : List ℕ) → ((entry : Entry) → one entry ≡ other entry)
    → (entry : Entry) → option_map_or (with_reason one reason) named one entry ≡ option_map_or (with_reason other reason) named other entry
reasons_alike_at None one other reason same entry = same entry
reasons_alike_at (Some named) one other reason same entry = reason_alike (one entry) (other entry) reason (same_entry entry named) (same entry)

-- the same reasons are the same after an event
pub reasons_alike : (ranges : List Range) (one other : DeoptReasons) (event : CodeEvent) → ((entry : Entry) → one entry ≡ other entry)
    → (entry : Entry) → reasons_after_event ranges one event entry ≡ reasons_after_event ranges other event entry
reasons_alike ranges one other (Create start layout) same entry = same entry
reasons_alike ranges one other (Move from to) same entry = same entry
reasons_alike ranges one other (NoOpt start reason) same entry = reasons_alike_at (option_and_then range_entry (range_at ranges start)) one other reason same entry
reasons_alike ranges one other (Deopt start reason) same entry = reasons_alike_at (option_and_then range_entry (range_at ranges start)) one other reason same entry
reasons_alike ranges one other (Delete start) same entry = same entry
reasons_alike ranges one other (Start session options time) same entry = same entry
reasons_alike ranges one other (Stop session time) same entry = same entry
reasons_alike ranges one other (Finish time files) same entry = same entry
