-- What frames become where the optimised code of a function is given up, by the layout of that code.
use Rattle.std.specs.Prelude.{ℕ, List, [], ◌∷◌, map, flat_map, if◌then◌else◌}
use Rattle.std.specs.Option.{option_map_or}
use Rattle.std.specs.List.{slice_get}
use Rattle.code_event.specs.Layout.{sites_above}
use Rattle.code_event.specs.Parts.{LayoutParts}
use Rattle.guest_stack.specs.Stack.{site_position, slot_positions, plain_code_frame, is_optimised_of}
use Rattle.guest_stack.specs.declared.stack.CodeFrame.{CodeFrame}

-- frames of plain code at the calls at which a unit and those above it were inlined, at most this many, the innermost first
abbrev pub frames_above : ℕ → LayoutParts → ℕ → List CodeFrame
frames_above most layout unit = map plain_code_frame (map (site_position layout) (sites_above most layout.units unit))

-- What a frame becomes where the optimised code of a function, which has this layout, is given up, youngest first.
abbrev pub given_up_by : LayoutParts → ℕ → CodeFrame → List CodeFrame
given_up_by layout func frame =
    if is_optimised_of func frame.code then map plain_code_frame (option_map_or (slot_positions layout) (slice_get layout.slots frame.slot) []) else frame ∷ []

-- what a stack becomes so, both youngest first
abbrev pub all_given_up_by : LayoutParts → ℕ → List CodeFrame → List CodeFrame
all_given_up_by layout func stack = flat_map (given_up_by layout func) stack
