-- What holds of all programs and their texts.
use Rattle.std.specs.Prelude.{◌≡◌, ℕ, List}
use Rattle.guest_program.specs.declared.instr.Func.{Func}
use Rattle.guest_program.specs.Program.{IsProgram}
use Rattle.guest_text.specs.ProgramText.{program_text, Spells}

-- the canonical text of a program spells it
abbrev pub CanonicalTextsSpell : Type 0
CanonicalTextsSpell = (funcs : List Func) → IsProgram funcs → Spells (program_text funcs) funcs

-- a text spells one program at most
abbrev pub TextsSpellOneProgram : Type 0
TextsSpellOneProgram = (text : List ℕ) (one other : List Func) → IsProgram one → IsProgram other → Spells text one → Spells text other → one ≡ other

-- what a canonical text spells has this canonical text
abbrev pub CanonicalTextsStay : Type 0
CanonicalTextsStay = (funcs read : List Func) → IsProgram funcs → IsProgram read → Spells (program_text funcs) read → program_text read ≡ program_text funcs

-- programs with the same canonical text are equal
abbrev pub ProgramsHaveTheirTexts : Type 0
ProgramsHaveTheirTexts = (one other : List Func) → IsProgram one → IsProgram other → program_text one ≡ program_text other → one ≡ other
