-- A history has no bytes and owns nothing, so it can be made with any items. Assumes `Logic`.
use Rattle.std.proofs.Common.{List, [], ◌∷◌, refl}
use seplogic.Ra.Ura.{Ura}
use mir.Syntax.{Args, a_type}
use mir.Val.{Val, vstruct, vcons, vnil}
use base.Logic.{ent, emp}
use base.Fml.{Fml}
use types.Logic.{Logic, sem}
use denote.RattleType.{RattleType}
use denote.Param.{layouts}
use denote.Shadow.{makes_shadow}
use Rattle.history.specs.contracts.History.{the_row}

-- the type argument of the code, where the values have the type `T`
abbrev pub at_type : RattleType → Args
at_type T = layouts (a_type ∷ []) (T, tt)

-- the machine's marker, a struct with no field
abbrev pub marker : Val
marker = vstruct vnil

-- the machine's history, a struct with the marker as its one field
abbrev pub bare : Val
bare = vstruct (vcons marker vnil)

module _ (R : RattleType) where
  -- the history with these items
  abbrev pub holding : List R.Denot → (the_row R).Denot
  holding items = record { of = record {}; items = items }

  -- what it owns as that machine value
  abbrev pub owned_as : List R.Denot → Fml
  owned_as items = (the_row R).own_val (holding items) (bare ∷ [])

  -- which only says that the machine value is the one above
  pub made : {M : Type 1} {𝓤 : Ura M} (𝓛 : Logic 𝓤) (items : List R.Denot) → ent 𝓤 (emp 𝓤) (sem 𝓛 (owned_as items))
  made 𝓛 items =
      makes_shadow 𝓛 (owned_as items) ((λ fields. (tt, ((λ none. (tt, tt)), tt))), tt) (((marker ∷ [], tt), (refl, ((tt, (refl, tt)), tt))), tt)
