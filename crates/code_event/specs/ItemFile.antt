-- The files of what is seen and of an item list, in the order in which their sessions end.
use Rattle.std.specs.Prelude.{ℕ, List, [], ◌∷◌, Option, option_map, flat_map, if◌then◌else◌}
use Rattle.std.specs.Option.{option_to_list}
use Rattle.std.specs.Ordering.{nat_cmp}
use Rattle.prof_base.specs.Ordered.{insert_sorted}
use Rattle.prof_base.specs.declared.ids.SessionId.{SessionId}
use Rattle.code_event.specs.ItemList.{without}
use Rattle.code_event.specs.Seen.{Seen, started, stopped, finished, ticked, seen_items}
use Rattle.code_event.specs.FileText.{file}
use Rattle.code_event.specs.declared.tick.Item.{Item}

-- the file of a session in an item list
abbrev pub item_file : ℕ → List Item → SessionId → Option (List ℕ)
item_file base items session = file base session (seen_items items)

-- a session by its number
abbrev pub session : ℕ → SessionId
session number = record { 0 = number }

-- a session by its number, with the text of its file
pub record SessionFile : Type 0 where
  pub session : ℕ
  pub text : List ℕ

-- the file of a session in what is seen, if it has one
abbrev pub session_file : ℕ → List Seen → ℕ → List SessionFile
session_file base seen number = option_to_list (option_map (λ text. record { session = number; text = text }) (file base (session number) seen))

-- the files of these sessions in what is seen
abbrev pub files_of : ℕ → List Seen → List ℕ → List SessionFile
files_of base seen numbers = flat_map (session_file base seen) numbers

-- the sessions in the order in which they end, where these run at first, in rising order: each stopped one, then those that a finish with files ends, by their numbers
abbrev pub ends_behind : List ℕ → List Seen → List ℕ
ends_behind running [] = []
ends_behind running (started s options time ∷ seen) = ends_behind (insert_sorted nat_cmp s.0 running) seen
ends_behind running (stopped s time reasons ∷ seen) = s.0 ∷ ends_behind (without s.0 running) seen
ends_behind running (finished time files reasons ∷ seen) = if files then running else []
ends_behind running (ticked tick ∷ seen) = ends_behind running seen

-- the sessions that end in what is seen, in the order in which they end
abbrev pub ends : List Seen → List ℕ
ends seen = ends_behind [] seen

-- the files of what is seen, in the order in which their sessions end
abbrev pub files : ℕ → List Seen → List SessionFile
files base seen = files_of base seen (ends seen)

-- the files of an item list, in order
abbrev pub item_files : ℕ → List Item → List SessionFile
item_files base items = files base (seen_items items)
