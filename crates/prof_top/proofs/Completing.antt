-- A call whose words are a line of the table, whose texts can be read, and in which no fault was counted, does what it was asked for, or memory runs out.
use Rattle.std.proofs.Common.{◌≡◌, ℕ, List, refl, sym, subst, ◌∙◌, inl, inr, arith}
use Rattle.std.proofs.lemmas.List.Elements.{All-contains, All-from_recursion}
use Rattle.std.specs.Option.{IsSomeAnd}
use Rattle.std.specs.Prelude.{◌⊎◌, Option, Some, None}
use Rattle.prof_outer.specs.Files.{FileMap, file_at}
use Rattle.run_schedule.specs.ScheduleParts.{ScheduleParts}
use Rattle.prof_top.specs.Asked.{Asked, HasReading, HoldsUnreadable, LacksFile, MayRead, MayReadAll, AsksFor, AsksForKind, asked, guest_program, item_list}
use Rattle.prof_top.specs.Causes.{Outside, IsEndedAs}
use Rattle.prof_top.specs.Command.{IsCommand}
use Rattle.prof_top.specs.Complete.{HasNoFault, IsComplete}
use Rattle.prof_top.specs.Ending.{status_of}
use Rattle.prof_top.specs.HandedOut.{IsEndedSo, IsGuestEnd, Outlets}
use Rattle.prof_top.specs.Outcome.{HasOutcome, IsBeforeWork}
use Rattle.prof_top.specs.declared.ending.Ending.{Ending}
use Rattle.prof_top.specs.declared.ending.Ending.TheVariants.{Done, Usage, ProgramRefused, Missing, CannotRead, CannotWrite, Memory, Trapped, BudgetSpent, ItemsRefused, ScheduleFull, Aborted}

-- what is there and can be read is not unreadable, and not missing
not_unreadable : (P : List ℕ → Type 0) (found : Option (List ℕ)) → IsSomeAnd found P → IsSomeAnd found (λ bytes. ¬ P bytes) → ⊥
not_unreadable P None read unread = read
not_unreadable P (Some bytes) read unread = unread read

not_missing : (P : List ℕ → Type 0) (found : Option (List ℕ)) → IsSomeAnd found P → found ≡ None → ⊥
not_missing P None read none = read
not_missing P (Some bytes) read none = absurd (cc none)

module _ (words : List (List ℕ)) (files : FileMap) (all : MayReadAll (Some files) words) where
  each_read : (Q : Asked → Type 0) → AsksFor words Q → (text : Asked) × IsSomeAnd (file_at files text.name) (HasReading text.kind) × Q text
  each_read Q asks =
      let line = asks.0 in
      let text = asks.2 in
      (text, All-contains (MayRead (Some files)) (asked line) text (All-from_recursion (MayRead (Some files)) (asked line) (all line asks.1)) asks.3, asks.4)

  none_unreadable : (P : Asked → Type 0) → AsksFor words (λ text. P text × HoldsUnreadable (Some files) text) → ⊥
  none_unreadable P asks =
      let had = each_read (λ text. P text × HoldsUnreadable (Some files) text) asks in
      not_unreadable (HasReading had.0.kind) (file_at files had.0.name) had.1 had.2.1

  none_missing : AsksFor words (λ text. LacksFile (Some files) text.name) → ⊥
  none_missing asks =
      let had = each_read (λ text. LacksFile (Some files) text.name) asks in
      not_missing (HasReading had.0.kind) (file_at files had.0.name) had.1 had.2

  -- the call ended as its guest did, or out of memory
  ended_well : (before now : Outside) → before.held ≡ Some files → IsCommand words → HasNoFault before now → (ending : Ending) → IsEndedAs words before now ending → (status_of ending ≡ 6) ⊎ IsGuestEnd (status_of ending)
  ended_well before now tells command none Usage is = absurd (is command)
  ended_well before now tells command none (ProgramRefused name line cause) is =
      absurd (none_unreadable (λ text. text.kind ≡ guest_program) (subst (λ held. AsksForKind words guest_program (HoldsUnreadable held)) tells is))
  ended_well before now tells command none (ItemsRefused line cause) is =
      absurd (none_unreadable (λ text. text.kind ≡ item_list) (subst (λ held. AsksForKind words item_list (HoldsUnreadable held)) tells is))
  ended_well before now tells command none (Missing name) is = absurd (none_missing (subst (λ held. AsksFor words (λ text. LacksFile held text.name)) tells is.0))
  ended_well before now tells command none (CannotRead name) is = absurd (none.read is.1)
  ended_well before now tells command none CannotWrite is = elim is.1 [
    | inl stream ↦ absurd (none.stream stream)
    | inr other ↦ elim other [ inl out ↦ absurd (none.out out) | inr write ↦ absurd (none.write write) ]
  ]
  ended_well before now tells command none Memory is = inl refl
  ended_well before now tells command none Aborted is = absurd (none.aborts is.1)
  ended_well before now tells command none Done is = inr (inl refl)
  ended_well before now tells command none (Trapped trap step) is = inr (inr (inl refl))
  ended_well before now tells command none (BudgetSpent steps) is = inr (inr (inr (inl refl)))
  ended_well before now tells command none ScheduleFull is = inr (inr (inr (inr refl)))

-- a guest's end is no other end
not_guest : (status other : ℕ) → (other ≡ 1) ⊎ ((other ≡ 2) ⊎ ((other ≡ 3) ⊎ ((other ≡ 4) ⊎ ((other ≡ 10) ⊎ ((other ≡ 6) ⊎ ((other ≡ 14) ⊎ (other ≡ 5))))))) → status ≡ other → IsGuestEnd status → ⊥
not_guest status other is same guest = grind (arith, is, same, guest)

module _ (words : List (List ℕ)) (held : Option FileMap) (status : ℕ) (schedules : List ScheduleParts) (before now : Outlets) (guest : IsGuestEnd status) where
  as_due : (due : Ending) → IsEndedSo due status before now → status ≡ status_of due
  as_due due ended = elim ended [
    | inl memory ↦ absurd (not_guest status 6 (inr (inr (inr (inr (inr (inl refl)))))) memory guest)
    | inr rest ↦ elim rest [
      | inl aborted ↦ absurd (not_guest status 14 (inr (inr (inr (inr (inr (inr (inl refl))))))) aborted.0 guest)
      | inr rest ↦ elim rest [ inl failed ↦ absurd (not_guest status 5 (inr (inr (inr (inr (inr (inr (inr refl))))))) failed.0 guest) | inr due ↦ due ]
    ]
  ]

  -- a call that ended as its guest did has done what it was asked for
  done_well : HasOutcome words held status schedules before now → IsComplete words held status schedules
  done_well outcome = elim outcome [
    | inl done ↦ let is = done.2 in inr (done.0, done.1, is.product, is.makes, is.schedules_are, as_due is.product.due is.ended)
    | inr rest ↦ elim rest [
      | inl idle ↦ absurd (grind (arith, idle, guest))
      | inr cut ↦ absurd (not_guest status 6 (inr (inr (inr (inr (inr (inl refl)))))) cut.0 guest)
    ]
  ]

pub completes : (words : List (List ℕ)) (files : FileMap) (before now : Outside) (ending : Ending) (status : ℕ) (schedules : List ScheduleParts) (old new : Outlets) → MayReadAll before.held words → before.held ≡ Some files
    → IsCommand words → HasNoFault before now → IsEndedAs words before now ending → status ≡ status_of ending → HasOutcome words before.held status schedules old new → IsComplete words before.held status schedules
completes words files before now ending status schedules old new all tells command none ended same outcome =
    elim (ended_well words files (subst (λ held. MayReadAll held words) tells all) before now tells command none ending ended) [
      | inl memory ↦ inl (same ∙ memory)
      | inr guest ↦ done_well words before.held status schedules old new (subst IsGuestEnd (sym same) guest) outcome
    ]
