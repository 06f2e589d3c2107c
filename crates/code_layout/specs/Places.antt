-- The table of the places of slots.
use Rattle.std.specs.Prelude.{◌≡◌, ℕ, List, [], Option}
use Rattle.std.specs.Option.{option_map_or, option_and_then}
use Rattle.std.specs.List.{slice_get}
use Rattle.std.specs.Global.{Vec}
use Rattle.code_event.specs.Parts.{LayoutParts}
use Rattle.code_layout.specs.Laws.{slot_of}
use Rattle.code_layout.specs.declared.table.SlotTable.{SlotTable}

-- the place of an index in a row, if there is one
abbrev pub entry : List (Option ℕ) → ℕ → Option ℕ
entry row index = option_and_then (λ place. place) (slice_get row index)

-- the row of a unit
abbrev pub row_at : List (Vec (Option ℕ)) → ℕ → List (Option ℕ)
row_at rows unit = option_map_or (λ row. row.items) (slice_get rows unit) []

-- the table has the place of each slot of this layout
unfoldable pub HasPlaces : SlotTable → LayoutParts → Type 0
HasPlaces table layout = (unit index : ℕ) → entry (row_at table.rows.items unit) index ≡ slot_of layout unit index
