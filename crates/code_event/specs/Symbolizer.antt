-- The symbolizer: which functions were on the stack of a tick and at which lines, its resolved frames; and the path that they make in a tree.
use Rattle.std.specs.Prelude.{ℕ, ◌+◌, ◌-◌, ◌/◌, List, [], ◌∷◌, ◌++◌, Bool, ◌&&◌, ◌==◌, nat_lt, nat_le, Option, option_map, find, flat_map, reverse, map, codes, if◌then◌else◌}
use Rattle.std.specs.Option.{option_map_or, option_to_list}
use Rattle.std.specs.List.{slice_get}
use Rattle.code_event.specs.Parts.{LayoutParts}
use Rattle.code_event.specs.Layout.{sites_above}
use Rattle.code_event.specs.declared.layout.TheConstants.{SLOT_SIZE}
use Rattle.code_event.specs.declared.layout.TheConstants.Layout.{MAX_ABOVE}
use Rattle.code_event.specs.declared.code_map.Range.{Range}
use Rattle.code_event.specs.declared.seen.ResolvedFrame.{ResolvedFrame}
use Rattle.code_event.specs.declared.layout.Slot.{Slot}
use Rattle.code_event.specs.declared.entry.Entry.{Entry}
use Rattle.code_event.specs.declared.event.Mode.{Mode}
use Rattle.code_event.specs.declared.event.Mode.TheVariants.{Leaf, Caller}
use Rattle.code_event.specs.declared.path.PathStep.{PathStep}
use Rattle.code_event.specs.declared.tick.VmState.{VmState}
use Rattle.code_event.specs.declared.tick.VmState.TheVariants.{Js, Idle, Native, Gc}
use Rattle.code_event.specs.declared.tick.Tick.{Tick}

-- the unit with this number, at this line
abbrev pub unit_frame : LayoutParts → ℕ → ℕ → List ResolvedFrame
unit_frame layout number line = option_to_list (option_map (λ u. record { entry = u.entry; line = line }) (slice_get layout.units number))

-- the unit of a slot at the slot's line, then each unit above at the line of the call that was inlined
abbrev pub slot_frames : LayoutParts → Slot → List ResolvedFrame
slot_frames layout slot =
    unit_frame layout slot.unit slot.line ++ flat_map (λ site. unit_frame layout site.unit site.line) (sites_above MAX_ABOVE layout.units slot.unit)

-- an address lies in a range
abbrev pub holds : ℕ → Range → Bool
holds address range = nat_le range.start address && nat_lt address (range.start + range.size)

-- the slot of an address in a range
abbrev pub slot_at : ℕ → Range → Option Slot
slot_at address range = slice_get range.layout.slots ((address - range.start) / SLOT_SIZE)

-- the functions at an address of a range, youngest first
abbrev pub range_frames : ℕ → Range → List ResolvedFrame
range_frames address range = option_map_or (slot_frames range.layout) (slot_at address range) []

-- the functions at an address, youngest first; none where it is in no range
abbrev pub frames_at : List Range → ℕ → List ResolvedFrame
frames_at ranges address = option_map_or (range_frames address) (find (holds address) ranges) []

-- the functions at a return address: those of the call before it; none at 0
abbrev pub caller_frames : List Range → ℕ → List ResolvedFrame
caller_frames ranges address = if address == 0 then [] else frames_at ranges (address - 1)

-- the functions on a stack of addresses, both youngest first
abbrev pub stack_frames : List Range → List ℕ → List ResolvedFrame
stack_frames ranges [] = []
stack_frames ranges (youngest ∷ callers) = frames_at ranges youngest ++ flat_map (caller_frames ranges) callers

-- an entry that is not a function, as V8 names it
abbrev pub special : List ℕ → Entry
special name = record { name = name; url = []; script = 0; line = 0; column = 0 }

-- the one frame of a tick that names no function
abbrev pub special_frame : List ℕ → List ResolvedFrame
special_frame name = record { entry = special name; line = 0 } ∷ []

-- these frames, or the frame of the program where there are none
abbrev pub or_program : List ResolvedFrame → List ResolvedFrame
or_program [] = special_frame (codes "(program)")
or_program (frame ∷ frames) = frame ∷ frames

-- the resolved frames of a tick over these ranges, oldest first
abbrev pub frames_over : List Range → VmState → List ℕ → List ResolvedFrame
frames_over ranges Js addresses = or_program (reverse (stack_frames ranges addresses))
frames_over ranges Idle addresses = special_frame (codes "(idle)")
frames_over ranges Native addresses = special_frame (codes "(program)")
frames_over ranges Gc addresses = special_frame (codes "(garbage collector)")

-- the resolved frames of a tick
abbrev pub tick_frames : List Range → Tick → List ResolvedFrame
tick_frames ranges tick = frames_over ranges tick.state tick.frames

-- the path in which each step has the line of the frame before it, and the first step this line
abbrev pub caller_path : ℕ → List ResolvedFrame → List PathStep
caller_path line [] = []
caller_path line (frame ∷ frames) = record { entry = frame.entry; call_line = line } ∷ caller_path frame.line frames

-- the path in which no step has the line of a call
abbrev pub leaf_path : List ResolvedFrame → List PathStep
leaf_path frames = map (λ frame. record { entry = frame.entry; call_line = 0 }) frames

abbrev pub path : Mode → List ResolvedFrame → List PathStep
path Leaf frames = leaf_path frames
path Caller frames = caller_path 0 frames

-- the line of the last frame, 0 where there is none
abbrev pub leaf_line : List ResolvedFrame → ℕ
leaf_line [] = 0
leaf_line (frame ∷ []) = frame.line
leaf_line (frame ∷ other ∷ frames) = leaf_line (other ∷ frames)
