-- How the files of a depot change in a put. Where they cannot be observed, each equation says only that they cannot be observed afterwards.
use Rattle.std.specs.Prelude.{ℕ, ◌≡◌, ◌⊎◌, List, Option, option_map}
use Rattle.std.specs.FinMap.{insert, remove}
use Rattle.prof_outer.specs.Files.{FileMap}
use Rattle.prof_outer.specs.declared.failing.Left.{Left}
use Rattle.prof_outer.specs.declared.failing.Left.TheVariants.{OldBytes, NewBytes, Nothing}

-- the file with this name has these bytes, and all else stays
abbrev pub IsPut : Option FileMap → List ℕ → List ℕ → Option FileMap → Type 0
IsPut old name bytes new = new ≡ option_map (λ files. insert files name bytes) old

-- there is no file with this name, and all else stays
abbrev pub IsRemoved : Option FileMap → List ℕ → Option FileMap → Type 0
IsRemoved old name new = new ≡ option_map (λ files. remove files name) old

-- the name has its old bytes, the new ones or no file, and all else stays
abbrev pub AfterFailedPut : Option FileMap → List ℕ → List ℕ → Option FileMap → Type 0
AfterFailedPut old name bytes new = (new ≡ old) ⊎ (IsPut old name bytes new ⊎ IsRemoved old name new)

-- the name has what is said, and all else stays
abbrev pub IsLeft : Left → Option FileMap → List ℕ → List ℕ → Option FileMap → Type 0
IsLeft OldBytes old name bytes new = new ≡ old
IsLeft NewBytes old name bytes new = IsPut old name bytes new
IsLeft Nothing old name bytes new = IsRemoved old name new
