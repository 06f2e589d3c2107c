-- The lines of the command table, as the words that are typed.
use Rattle.std.specs.Prelude.{◌≡◌, ◌≢◌, ℕ, ◌<◌, ◌≤◌, List, [], ◌∷◌, length, slice_index, codes, decimal}
use Rattle.prof_base.specs.Text.{IsText}
use Rattle.prof_base.specs.declared.interval.TheConstants.{MAX_INTERVAL}
use Rattle.run_schedule.specs.declared.limits.TheConstants.{MAX_BUDGET, MAX_ENTRIES, MIN_ENTRIES}
use Rattle.prof_top.specs.declared.words.CommandLine.{CommandLine}
use Rattle.prof_top.specs.declared.words.CommandLine.TheVariants.{Run, Fold}
use Rattle.prof_top.specs.declared.words.RunLimits.{RunLimits}
use Rattle.prof_top.specs.declared.words.RunLimits.TheVariants.{Default, Steps, Both}
use Rattle.prof_top.specs.declared.words.RunOptions.{RunOptions}
use Rattle.prof_top.specs.declared.words.TheConstants.{BUDGET, ENTRIES}

-- a word that names something: a text of at least one byte that does not begin with a dash
pub record IsName (word : List ℕ) : Type 0 where
  pub text : IsText word
  pub some : 0 < length word
  pub no_dash : slice_index word 0 ≢ 45

-- the words that are typed for the limits of a run
abbrev pub limit_words : RunLimits → List (List ℕ)
limit_words Default = []
limit_words (Steps budget) = decimal budget ∷ []
limit_words (Both budget entries) = decimal budget ∷ decimal entries ∷ []

-- a run has at least one step, and its schedule has room for one entry and the end
abbrev pub AreLimits : RunLimits → Type 0
AreLimits Default = Unit {0}
AreLimits (Steps budget) = (1 ≤ budget) × (budget ≤ MAX_BUDGET)
AreLimits (Both budget entries) = (1 ≤ budget) × (budget ≤ MAX_BUDGET) × (MIN_ENTRIES ≤ entries) × (entries ≤ MAX_ENTRIES)

-- what a run at this interval and within these limits is done with
abbrev pub options_of : ℕ → RunLimits → RunOptions
options_of every Default = record { every = every; budget = BUDGET; entries = ENTRIES }
options_of every (Steps budget) = record { every = every; budget = budget; entries = ENTRIES }
options_of every (Both budget entries) = record { every = every; budget = budget; entries = entries }

-- the words that are typed for it
abbrev pub words_of : CommandLine → List (List ℕ)
words_of (Run program every limits) = codes "run" ∷ program ∷ decimal every ∷ limit_words limits
words_of (Fold items) = codes "fold" ∷ items ∷ []

-- its names are names, and its numbers are in their ranges
abbrev pub IsInRange : CommandLine → Type 0
IsInRange (Run program every limits) = IsName program × (1 ≤ every) × (every ≤ MAX_INTERVAL) × AreLimits limits
IsInRange (Fold items) = IsName items

-- the words are this line of the table
pub record Means (words : List (List ℕ)) (line : CommandLine) : Type 0 where
  pub spelled : words ≡ words_of line
  pub in_range : IsInRange line

-- the words are a line of the table
abbrev pub IsCommand : List (List ℕ) → Type 0
IsCommand words = (line : CommandLine) × Means words line

-- the words ask for a run
abbrev pub AsksToRun : List (List ℕ) → Type 0
AsksToRun words = (program : List ℕ) × (every : ℕ) × (limits : RunLimits) × Means words (Run program every limits)
