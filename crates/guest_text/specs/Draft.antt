-- What is kept of a program while its text is read.
use Rattle.std.specs.Prelude.{◌≡◌, ℕ, ◌≤◌, List, [], ◌∷◌, ◌++◌, length, map, Bool, bytes_eq, Option, Some, None}
use Rattle.std.specs.List.{list_any, AllByRecursion}
use Rattle.prof_lines.specs.Canonical.{further}
use Rattle.guest_program.specs.declared.instr.Func.{Func}
use Rattle.guest_program.specs.declared.instr.Instr.{Instr}
use Rattle.guest_program.specs.declared.program.TheConstants.Program.{MAX_FUNCS}
use Rattle.guest_text.specs.declared.program_line.Head.{Head}
use Rattle.guest_text.specs.declared.program_line.ProgramLine.{ProgramLine}
use Rattle.guest_text.specs.ProgramLine.{entry_words, IsHead}
use Rattle.guest_text.specs.ProgramRules.{heads}
use Rattle.guest_text.specs.ProgramText.{program_lines}

-- the word is one of these
abbrev pub is_among : List (List ℕ) → List ℕ → Bool
is_among words word = list_any (λ other. bytes_eq other word) words

-- as sets, the two have the same words
abbrev pub AreSame : List (List ℕ) → List (List ℕ) → Type 0
AreSame words others = (word : List ℕ) → is_among words word ≡ is_among others word

-- an entry as one word, by which it is told from others
abbrev pub entry_key : Head → List ℕ
entry_key head = further (entry_words head [])

-- a function with this line and these instructions
abbrev pub func_of : Head → List Instr → Func
func_of head body =
    record {
      label = head.label;
      name = head.name;
      url = head.url;
      script = head.script;
      line = head.line;
      column = head.column;
      inline = head.inline;
      body = body;
    }

-- the functions that are whole, and the one whose instructions are being read
abbrev pub draft_funcs : List Func → Option Func → List Func
draft_funcs done None = done
draft_funcs done (Some last) = done ++ last ∷ []

-- the lines of these functions
abbrev pub draft_lines : List Func → Option Func → List ProgramLine
draft_lines done last = program_lines (draft_funcs done last)

-- there are at most as many functions as a program may have, and none before the first line; the labels and entries are those of the functions
pub record IsDraft (labels entries : List (List ℕ)) (done : List Func) (last : Option Func) : Type 0 where
  pub few : length (draft_funcs done last) ≤ MAX_FUNCS
  pub begun : last ≡ None → done ≡ []
  pub fit : AllByRecursion IsHead (heads (draft_lines done last))
  pub labels_are : AreSame labels (map (λ head. head.label) (heads (draft_lines done last)))
  pub entries_are : AreSame entries (map entry_key (heads (draft_lines done last)))
