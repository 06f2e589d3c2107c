-- The forms of the lines of events: what is read is spelled so, and what is spelled so is read.
use Rattle.std.proofs.Common.{◌≡◌, ℕ, List, [], ◌∷◌, Bool, Option, Ok, refl, subst, codes, decimal, inl, inr, lit<}
use Rattle.prof_base.specs.declared.ids.SessionId.{SessionId}
use Rattle.prof_lines.specs.Spelled.{HasWords, IsWord, quoted}
use Rattle.prof_lines.proofs.Steps.{ok_same, bind_ok, chosen}
use Rattle.prof_lines.proofs.Places.{place_step, end_step}
use Rattle.prof_lines.proofs.Ends.{end_again}
use Rattle.prof_base.specs.Text.{IsText}
use Rattle.code_event.specs.declared.event.Mode.{Mode}
use Rattle.record_text.specs.declared.rule.Rule.{Rule}
use Rattle.item_text.specs.declared.item_line.LineEvent.{LineEvent}
use Rattle.item_text.specs.declared.item_line.LineEvent.TheVariants.{Move, NoOpt, Deopt, Delete, Start, Stop, Finish}
use Rattle.item_text.specs.ItemLine.{event_name, event_operands, IsAddress, IsEvent}
use Rattle.item_text.specs.ItemForms.{move_at, reason_at, no_opt_at, deopt_at, delete_at, start_at, stop_at, finish_at, event_of}
use Rattle.record_text.proofs.RecordWords.{session_place, port_place, interval_place, time_place, mode_place, max_place}
use Rattle.item_text.proofs.ItemWords.{address_place, text_place, files_place}

-- an event in its ranges, with its name and the words after it
abbrev IsEventSpelled : LineEvent → List ℕ → List ℕ → Type 0
IsEventSpelled event text bytes = IsEvent event × (event_name event ≡ text) × HasWords (event_operands event) bytes

move_takes : (bytes : List ℕ) (value : LineEvent) → move_at bytes ≡ Ok value → IsEventSpelled value (codes "move") bytes
unfolding move_at
move_takes bytes value h =
    let a = place_step _ _ _ address_place bytes _ value h in
    let b = place_step _ _ _ address_place a.0.1 _ value a.3 in
    let e = end_step b.0.1 _ value b.3 in
    subst (λ (v : LineEvent). IsEventSpelled v (codes "move") bytes) (ok_same _ _ e.1) ((a.1, b.1), refl, (a.0.1, a.2, (b.0.1, b.2, e.0)))

move_again : (bytes : List ℕ) (from to : ℕ) → IsEvent (Move from to) → HasWords (event_operands (Move from to)) bytes → move_at bytes ≡ Ok (Move from to)
unfolding move_at
move_again bytes from to fits s =
    rw (address_place.again bytes s.0 from fits.0 s.1, address_place.again s.0 s.2.0 to fits.1 s.2.1, end_again {C = Rule} s.2.0 s.2.2) refl

abbrev IsReason : ℕ × List ℕ → List ℕ → Type 0
IsReason x bytes = (IsAddress x.0 × IsText x.1) × HasWords (decimal x.0 ∷ quoted x.1 ∷ []) bytes

reason_takes : (bytes : List ℕ) (x : ℕ × List ℕ) → reason_at bytes ≡ Ok x → IsReason x bytes
unfolding reason_at
reason_takes bytes x h =
    let a = place_step _ _ _ address_place bytes _ x h in
    let b = place_step _ _ _ text_place a.0.1 _ x a.3 in
    let e = end_step b.0.1 _ x b.3 in
    subst (λ (v : ℕ × List ℕ). IsReason v bytes) (ok_same _ _ e.1) ((a.1, b.1), (a.0.1, a.2, (b.0.1, b.2, e.0)))

reason_again : (bytes : List ℕ) (x : ℕ × List ℕ) → IsReason x bytes → reason_at bytes ≡ Ok x
unfolding reason_at
reason_again bytes x s =
    rw (address_place.again bytes s.1.0 x.0 s.0.0 s.1.1, text_place.again s.1.0 s.1.2.0 x.1 s.0.1 s.1.2.1, end_again {C = Rule} s.1.2.0 s.1.2.2) refl

no_opt_takes : (bytes : List ℕ) (value : LineEvent) → no_opt_at bytes ≡ Ok value → IsEventSpelled value (codes "noopt") bytes
no_opt_takes bytes value h =
    let a = bind_ok (reason_at bytes) _ value h in
    let t = reason_takes bytes a.0 a.1 in
    subst (λ (v : LineEvent). IsEventSpelled v (codes "noopt") bytes) (ok_same _ _ a.2) (t.0, refl, t.1)

no_opt_again : (bytes : List ℕ) (start : ℕ) (reason : List ℕ) → IsEvent (NoOpt start reason) → HasWords (event_operands (NoOpt start reason)) bytes → no_opt_at bytes ≡ Ok (NoOpt start reason)
no_opt_again bytes start reason fits s = rw (reason_again bytes (start, reason) (fits, s)) refl

deopt_takes : (bytes : List ℕ) (value : LineEvent) → deopt_at bytes ≡ Ok value → IsEventSpelled value (codes "deopt") bytes
deopt_takes bytes value h =
    let a = bind_ok (reason_at bytes) _ value h in
    let t = reason_takes bytes a.0 a.1 in
    subst (λ (v : LineEvent). IsEventSpelled v (codes "deopt") bytes) (ok_same _ _ a.2) (t.0, refl, t.1)

deopt_again : (bytes : List ℕ) (start : ℕ) (reason : List ℕ) → IsEvent (Deopt start reason) → HasWords (event_operands (Deopt start reason)) bytes → deopt_at bytes ≡ Ok (Deopt start reason)
deopt_again bytes start reason fits s = rw (reason_again bytes (start, reason) (fits, s)) refl

delete_takes : (bytes : List ℕ) (value : LineEvent) → delete_at bytes ≡ Ok value → IsEventSpelled value (codes "delete") bytes
unfolding delete_at
delete_takes bytes value h =
    let a = place_step _ _ _ address_place bytes _ value h in
    let e = end_step a.0.1 _ value a.3 in
    subst (λ (v : LineEvent). IsEventSpelled v (codes "delete") bytes) (ok_same _ _ e.1) (a.1, refl, (a.0.1, a.2, e.0))

delete_again : (bytes : List ℕ) (start : ℕ) → IsAddress start → HasWords (decimal start ∷ []) bytes → delete_at bytes ≡ Ok (Delete start)
unfolding delete_at
delete_again bytes start fits s = rw (address_place.again bytes s.0 start fits s.1, end_again {C = Rule} s.0 s.2) refl

start_takes : (bytes : List ℕ) (value : LineEvent) → start_at bytes ≡ Ok value → IsEventSpelled value (codes "start") bytes
unfolding start_at
start_takes bytes value h =
    let a = place_step _ _ _ session_place bytes _ value h in
    let b = place_step _ _ _ port_place a.0.1 _ value a.3 in
    let c = place_step _ _ _ interval_place b.0.1 _ value b.3 in
    let d = place_step _ _ _ mode_place c.0.1 _ value c.3 in
    let m = place_step _ _ _ max_place d.0.1 _ value d.3 in
    let t = place_step _ _ _ time_place m.0.1 _ value m.3 in
    let e = end_step t.0.1 _ value t.3 in
    subst (λ (v : LineEvent). IsEventSpelled v (codes "start") bytes) (ok_same _ _ e.1)
    ((a.1, b.1, c.1, m.1, t.1), refl, (a.0.1, a.2, (b.0.1, b.2, (c.0.1, c.2, (d.0.1, d.2, (m.0.1, m.2, (t.0.1, t.2, e.0)))))))

start_again : (bytes : List ℕ) (session : SessionId) (port interval : ℕ) (mode : Mode) (max : Option ℕ) (time : ℕ) → IsEvent (Start session port interval mode max time)
    → HasWords (event_operands (Start session port interval mode max time)) bytes → start_at bytes ≡ Ok (Start session port interval mode max time)
unfolding start_at
start_again bytes session port interval mode max time fits s =
    rw (
      session_place.again bytes s.0 session.0 fits.0 s.1,
      port_place.again s.0 s.2.0 port fits.1 s.2.1,
      interval_place.again s.2.0 s.2.2.0 interval fits.2 s.2.2.1,
      mode_place.again s.2.2.0 s.2.2.2.0 mode tt s.2.2.2.1,
      max_place.again s.2.2.2.0 s.2.2.2.2.0 max fits.3 s.2.2.2.2.1,
      time_place.again s.2.2.2.2.0 s.2.2.2.2.2.0 time fits.4 s.2.2.2.2.2.1,
      end_again {C = Rule} s.2.2.2.2.2.0 s.2.2.2.2.2.2,
    )
    refl

stop_takes : (bytes : List ℕ) (value : LineEvent) → stop_at bytes ≡ Ok value → IsEventSpelled value (codes "stop") bytes
unfolding stop_at
stop_takes bytes value h =
    let a = place_step _ _ _ session_place bytes _ value h in
    let b = place_step _ _ _ time_place a.0.1 _ value a.3 in
    let e = end_step b.0.1 _ value b.3 in
    subst (λ (v : LineEvent). IsEventSpelled v (codes "stop") bytes) (ok_same _ _ e.1) ((a.1, b.1), refl, (a.0.1, a.2, (b.0.1, b.2, e.0)))

stop_again : (bytes : List ℕ) (session : SessionId) (time : ℕ) → IsEvent (Stop session time) → HasWords (event_operands (Stop session time)) bytes → stop_at bytes ≡ Ok (Stop session time)
unfolding stop_at
stop_again bytes session time fits s =
    rw (session_place.again bytes s.0 session.0 fits.0 s.1, time_place.again s.0 s.2.0 time fits.1 s.2.1, end_again {C = Rule} s.2.0 s.2.2) refl

finish_takes : (bytes : List ℕ) (value : LineEvent) → finish_at bytes ≡ Ok value → IsEventSpelled value (codes "finish") bytes
unfolding finish_at
finish_takes bytes value h =
    let a = place_step _ _ _ time_place bytes _ value h in
    let b = place_step _ _ _ files_place a.0.1 _ value a.3 in
    let e = end_step b.0.1 _ value b.3 in
    subst (λ (v : LineEvent). IsEventSpelled v (codes "finish") bytes) (ok_same _ _ e.1) (a.1, refl, (a.0.1, a.2, (b.0.1, b.2, e.0)))

finish_again : (bytes : List ℕ) (time : ℕ) (files : Bool) → IsEvent (Finish time files) → HasWords (event_operands (Finish time files)) bytes → finish_at bytes ≡ Ok (Finish time files)
unfolding finish_at
finish_again bytes time files fits s =
    rw (time_place.again bytes s.0 time fits s.1, files_place.again s.0 s.2.0 files tt s.2.1, end_again {C = Rule} s.2.0 s.2.2) refl

pub event_takes : (text bytes : List ℕ) (value : LineEvent) → event_of text bytes ≡ Ok value → IsEventSpelled value text bytes
event_takes text bytes value h = elim (chosen text (codes "move") (move_at bytes) _ value h) [
  | inl p ↦ subst (λ (z : List ℕ). IsEventSpelled value z bytes) p.0 (move_takes bytes value p.1)
  | inr h2 ↦ elim (chosen text (codes "noopt") (no_opt_at bytes) _ value h2) [
    | inl p ↦ subst (λ (z : List ℕ). IsEventSpelled value z bytes) p.0 (no_opt_takes bytes value p.1)
    | inr h3 ↦ elim (chosen text (codes "deopt") (deopt_at bytes) _ value h3) [
      | inl p ↦ subst (λ (z : List ℕ). IsEventSpelled value z bytes) p.0 (deopt_takes bytes value p.1)
      | inr h4 ↦ elim (chosen text (codes "delete") (delete_at bytes) _ value h4) [
        | inl p ↦ subst (λ (z : List ℕ). IsEventSpelled value z bytes) p.0 (delete_takes bytes value p.1)
        | inr h5 ↦ elim (chosen text (codes "start") (start_at bytes) _ value h5) [
          | inl p ↦ subst (λ (z : List ℕ). IsEventSpelled value z bytes) p.0 (start_takes bytes value p.1)
          | inr h6 ↦ elim (chosen text (codes "stop") (stop_at bytes) _ value h6) [
            | inl p ↦ subst (λ (z : List ℕ). IsEventSpelled value z bytes) p.0 (stop_takes bytes value p.1)
            | inr h7 ↦ elim (chosen text (codes "finish") (finish_at bytes) _ value h7) [
              | inl p ↦ subst (λ (z : List ℕ). IsEventSpelled value z bytes) p.0 (finish_takes bytes value p.1)
              | inr h8 ↦ absurd cc
            ]
          ]
        ]
      ]
    ]
  ]
]

pub event_again : (bytes : List ℕ) (value : LineEvent) → IsEvent value → HasWords (event_operands value) bytes → event_of (event_name value) bytes ≡ Ok value
event_again bytes (Move from to) fits s = move_again bytes from to fits s
event_again bytes (NoOpt start reason) fits s = no_opt_again bytes start reason fits s
event_again bytes (Deopt start reason) fits s = deopt_again bytes start reason fits s
event_again bytes (Delete start) fits s = delete_again bytes start fits s
event_again bytes (Start session port interval mode max time) fits s = start_again bytes session port interval mode max time fits s
event_again bytes (Stop session time) fits s = stop_again bytes session time fits s
event_again bytes (Finish time files) fits s = finish_again bytes time files fits s

pub event_is_word : (value : LineEvent) → IsWord (event_name value)
event_is_word (Move from to) = record { some = lit< tt; plain = refl }
event_is_word (NoOpt start reason) = record { some = lit< tt; plain = refl }
event_is_word (Deopt start reason) = record { some = lit< tt; plain = refl }
event_is_word (Delete start) = record { some = lit< tt; plain = refl }
event_is_word (Start session port interval mode max time) = record { some = lit< tt; plain = refl }
event_is_word (Stop session time) = record { some = lit< tt; plain = refl }
event_is_word (Finish time files) = record { some = lit< tt; plain = refl }
