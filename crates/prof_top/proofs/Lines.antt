-- Lines of the command table: words are one line at most, and what a text that was not read says of them.
use Rattle.std.proofs.Common.{◌≡◌, ◌≤◌, lit≤, ◌⊎◌, inl, inr, ℕ, List, ◌∷◌, [], refl, ap, sym, subst, ◌∙◌, arith}
use Rattle.std.specs.Prelude.{Option, Contains}
use Rattle.std.specs.List.{AllByRecursion}
use Rattle.prof_outer.specs.Files.{FileMap}
use Rattle.prof_top.specs.Asked.{Kind, asked, asked_as, guest_program, item_list, MayRead, MayReadAll}
use Rattle.prof_top.specs.Causes.{IsUnreadAs, IsReadable, IsStoppedAs}
use Rattle.prof_top.specs.Command.{AreLimits, Means, options_of, words_of}
use Rattle.prof_top.specs.Ending.{ending_of, status_of}
use Rattle.prof_top.specs.Said.{IsNamed}
use Rattle.prof_top.specs.Status.{StopsReading}
use Rattle.prof_top.specs.declared.ending.Ending.{Ending}
use Rattle.prof_top.specs.declared.ending.Ending.TheVariants.{Done, Usage, ProgramRefused, Missing, CannotRead, CannotWrite, Memory, Trapped, BudgetSpent, ItemsRefused, ScheduleFull, Aborted}
use Rattle.prof_top.specs.declared.load.Unread.{Unread}
use Rattle.prof_top.specs.declared.load.Unread.TheVariants as unread
use Rattle.prof_top.specs.declared.words.CommandLine.{CommandLine}
use Rattle.prof_top.specs.declared.words.CommandLine.TheVariants.{Run, Fold}
use Rattle.prof_top.specs.declared.words.RunLimits.{RunLimits}
use Rattle.prof_top.specs.declared.words.RunLimits.TheVariants.{Default, Steps, Both}
use Rattle.prof_base.specs.declared.interval.TheConstants.{MAX_INTERVAL}
use Rattle.prof_top.specs.Task.{AreOptions}

-- lines with the same words ask for the same texts
asked_once : (one other : CommandLine) → words_of one ≡ words_of other → asked one ≡ asked other
asked_once (Run program every limits) (Run program' every' limits') same = let name : program ≡ program' = cc same in ap (λ (n : List ℕ). asked_as guest_program n ∷ []) name
asked_once (Fold items) (Fold items') same = let name : items ≡ items' = cc same in ap (λ (n : List ℕ). asked_as item_list n ∷ []) name
asked_once (Run program every limits) (Fold items) same = absurd (cc same)
asked_once (Fold items) (Run program every limits) same = absurd (cc same)

-- what can be read for one line that the words mean, can be read for each
pub may_read_all : (words : List (List ℕ)) (held : Option FileMap) → IsReadable words held → MayReadAll held words
may_read_all words held is line means = subst (AllByRecursion (MayRead held)) (asked_once is.0 line (sym is.1.spelled ∙ means.spelled)) is.2

-- a run's interval and its limits, given or not, are in their ranges
pub options_ready : (every : ℕ) (limits : RunLimits) → 1 ≤ every → every ≤ MAX_INTERVAL → AreLimits limits → AreOptions (options_of every limits)
options_ready every Default low high fits = record { every_low = low; every_high = high; budget_low = lit≤ tt; budget_high = lit≤ tt; entries_low = lit≤ tt; entries_high = lit≤ tt }
options_ready every (Steps budget) low high fits = record { every_low = low; every_high = high; budget_low = fits.0; budget_high = fits.1; entries_low = lit≤ tt; entries_high = lit≤ tt }
options_ready every (Both budget entries) low high fits = record { every_low = low; every_high = high; budget_low = fits.0; budget_high = fits.1; entries_low = fits.2; entries_high = fits.3 }

-- a run asks for its program, and a fold for its item list
pub run_asks : (line : CommandLine) (program : List ℕ) (every : ℕ) (limits : RunLimits) → line ≡ Run program every limits → Contains (asked line) (asked_as guest_program program)
run_asks line program every limits is = subst (λ l. Contains (asked l) (asked_as guest_program program)) (sym is) (0, omega arith, refl)

pub fold_asks : (line : CommandLine) (items : List ℕ) → line ≡ Fold items → Contains (asked line) (asked_as item_list items)
fold_asks line items is = subst (λ l. Contains (asked l) (asked_as item_list items)) (sym is) (0, omega arith, refl)

-- a text that the words ask for was not read: how the call ends names it
pub named_of : (words : List (List ℕ)) (held : Option FileMap) (line : CommandLine) (kind : Kind) (name : List ℕ) (misses misses' faults faults' : ℕ) (why : Unread)
    → Means words line → Contains (asked line) (asked_as kind name) → IsUnreadAs held (asked_as kind name) misses misses' faults faults' why
    → IsNamed words held (ending_of why name)
named_of words held line kind name misses misses' faults faults' unread.Missing means has is = (line, means, asked_as kind name, has, refl)
named_of words held line kind name misses misses' faults faults' unread.CannotRead means has is = (line, means, asked_as kind name, has, refl)
named_of words held line kind name misses misses' faults faults' (unread.ProgramRefused at cause) means has is = (line, means, asked_as kind name, has, (is.0, (refl, is.2)))
named_of words held line kind name misses misses' faults faults' (unread.ItemsRefused at cause) means has is = (line, means, asked_as kind name, has, (is.0, is.2))
named_of words held line kind name misses misses' faults faults' unread.Memory means has is = tt

-- and why the call ends so
pub stopped_of : (words : List (List ℕ)) (held : Option FileMap) (line : CommandLine) (kind : Kind) (name : List ℕ) (misses misses' faults faults' : ℕ) (why : Unread)
    → Means words line → Contains (asked line) (asked_as kind name) → IsUnreadAs held (asked_as kind name) misses misses' faults faults' why
    → IsStoppedAs words held misses misses' faults faults' (ending_of why name)
stopped_of words held line kind name misses misses' faults faults' unread.Missing means has is = ((line, means, asked_as kind name, has, is.0), is.1)
stopped_of words held line kind name misses misses' faults faults' unread.CannotRead means has is = ((line, means), is)
stopped_of words held line kind name misses misses' faults faults' (unread.ProgramRefused at cause) means has is = (line, means, asked_as kind name, has, (is.0, is.1))
stopped_of words held line kind name misses misses' faults faults' (unread.ItemsRefused at cause) means has is = (line, means, asked_as kind name, has, (is.0, is.1))
stopped_of words held line kind name misses misses' faults faults' unread.Memory means has is = tt

-- a call that ended before its work stopped reading
pub stops_reading : (words : List (List ℕ)) (held : Option FileMap) (misses misses' faults faults' : ℕ) (ending : Ending) → IsStoppedAs words held misses misses' faults faults' ending → StopsReading (status_of ending)
stops_reading words held misses misses' faults faults' Memory is = inl refl
stops_reading words held misses misses' faults faults' Usage is = inr (inl refl)
stops_reading words held misses misses' faults faults' (ProgramRefused name at cause) is = inr (inr (inl refl))
stops_reading words held misses misses' faults faults' (Missing name) is = inr (inr (inr (inl refl)))
stops_reading words held misses misses' faults faults' (CannotRead name) is = inr (inr (inr (inr (inl refl))))
stops_reading words held misses misses' faults faults' (ItemsRefused at cause) is = inr (inr (inr (inr (inr refl))))
stops_reading words held misses misses' faults faults' Done is = absurd is
stops_reading words held misses misses' faults faults' CannotWrite is = absurd is
stops_reading words held misses misses' faults faults' (Trapped trap step) is = absurd is
stops_reading words held misses misses' faults faults' (BudgetSpent steps) is = absurd is
stops_reading words held misses misses' faults faults' ScheduleFull is = absurd is
stops_reading words held misses misses' faults faults' Aborted is = absurd is

-- what the words ask for can be read, or the call stopped reading, also once the line of error was written
pub readable_at_last : (words : List (List ℕ)) (held : Option FileMap) (status last : ℕ) → (last ≡ status) ⊎ (last ≡ 6) → StopsReading status ⊎ MayReadAll held words → StopsReading last ⊎ MayReadAll held words
readable_at_last words held status last (inl same) is = subst (λ s. StopsReading s ⊎ MayReadAll held words) (sym same) is
readable_at_last words held status last (inr memory) is = inl (inl memory)
