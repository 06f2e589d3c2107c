-- That each session that ends in what is seen has its file there.
use Rattle.std.proofs.Common.{◌≡◌, ℕ, List, [], ◌∷◌, ◌++◌, inl, inr, refl, ap, subst, ◌∙◌}
use Rattle.std.proofs.lemmas.Bool.{eqb-true, eq-eqb, both_ways}
use Rattle.std.specs.Prelude.{Bool, true, false, not, ◌==◌, Option, Some, None, option_map, if◌then◌else◌}
use Rattle.std.specs.List.{Contains}
use Rattle.std.specs.Option.{is_some, option_to_list}
use Rattle.std.specs.Ordering.{nat_cmp}
use Rattle.prof_base.proofs.Ordered.{Has, has_from_contains, has_put}
use Rattle.prof_base.specs.Ordered.{insert_sorted}
use Rattle.code_event.proofs.Members.{has_filtered, has_if, flat_map_each}
use Rattle.code_event.specs.FileLaws.{sessions_of, AreStoppedWhileRunning, FilesAreTheirSessions, StoppedSessionsHaveFiles}
use Rattle.code_event.specs.FileText.{file, file_text}
use Rattle.code_event.specs.ItemFile.{SessionFile, session, session_file, ends, ends_behind, files_of}
use Rattle.code_event.specs.ItemList.{without}
use Rattle.code_event.specs.Profile.{profile_of}
use Rattle.code_event.specs.Recording.{Recording, recording, recording_behind, with_tick, ended}
use Rattle.code_event.specs.Seen.{Seen, started, stopped, finished, ticked, seen_items}
use Rattle.code_event.specs.Subsample.{kept}
use Rattle.code_event.specs.declared.recording.Begun.{Begun}

is_some-option_map : {X Y : Type 0} (f : X → Y) (o : Option X) → is_some o ≡ true → is_some (option_map f o) ≡ true
is_some-option_map f None e = absurd (cc)
is_some-option_map f (Some x) e = refl

-- a session that ends has a recording, where each session is only stopped while it runs
recorded_behind : (number : ℕ) (running : List ℕ) (begun : Option Begun) (seen : List Seen)
    → AreStoppedWhileRunning running seen → (Has running number → is_some begun ≡ true) → Has (ends_behind running seen) number
    → is_some (recording_behind number begun seen) ≡ true
recorded_behind number running begun [] stops begins ends = absurd ends
recorded_behind number running begun (started s options time ∷ seen) stops begins ends =
    let again : Option Begun = Some (record { options = options; start = time; ticks = [] }) in
    let more = insert_sorted nat_cmp s.0 running in
    elim (s.0 == number) as (λ (b : Bool). (s.0 == number) ≡ b → is_some (if b then recording_behind number again seen else recording_behind number begun seen) ≡ true) [
      | true ↦ λ same. recorded_behind number more again seen stops (λ h. refl) ends
      | false ↦ λ other.
          recorded_behind number more begun seen stops
          (λ h. elim (has_put nat_cmp s.0 number running h) [ inl same ↦ absurd (both_ways (s.0 == number) other (eq-eqb s.0 number same)) | inr old ↦ begins old ])
          ends
    ] refl
recorded_behind number running begun (stopped s time reasons ∷ seen) stops begins ends =
    elim (s.0 == number) as (λ (b : Bool). (s.0 == number) ≡ b → is_some (if b then ended begun time reasons else recording_behind number begun seen) ≡ true) [
      | true ↦ λ same. is_some-option_map _ begun (begins (subst (Has running) (eqb-true s.0 number same) (has_from_contains running s.0 stops.0)))
      | false ↦ λ other.
          elim ends [
            | inl same ↦ absurd (both_ways (s.0 == number) other (eq-eqb s.0 number same))
            | inr later ↦ recorded_behind number (without s.0 running) begun seen stops.1 (λ h. begins (has_filtered (λ m. not (m == s.0)) running number h)) later
          ]
    ] refl
recorded_behind number running begun (finished time files reasons ∷ seen) stops begins ends =
    is_some-option_map _ begun (begins (has_if files running number ends))
recorded_behind number running begun (ticked tick ∷ seen) stops begins ends =
    recorded_behind number running (option_map (with_tick number tick) begun) seen stops (λ h. is_some-option_map (with_tick number tick) begun (begins h)) ends

-- a session with a recording has one file, and it is its own
one_file : (base number : ℕ) (recorded : Option Recording) (files : List SessionFile) → is_some recorded ≡ true
    → sessions_of (option_to_list (option_map (λ text. record { session = number; text = text })
    (option_map file_text (option_map (λ r. profile_of (session number) r (kept base r.begun)) recorded))) ++ files)
    ≡ number ∷ sessions_of files
one_file base number None files has = absurd (cc)
one_file base number (Some recorded) files has = refl

-- sessions with recordings have their files, in order
recorded_have_files : (base : ℕ) (seen : List Seen) (numbers : List ℕ)
    → ((number : ℕ) → Has numbers number → is_some (recording number seen) ≡ true) → sessions_of (files_of base seen numbers) ≡ numbers
recorded_have_files base seen [] each = refl
recorded_have_files base seen (number ∷ numbers) each =
    one_file base number (recording number seen) (files_of base seen numbers) (each number (inl refl))
    ∙ ap (λ (ns : List ℕ). number ∷ ns) (recorded_have_files base seen numbers (λ n h. each n (inr h)))

pub stopped_sessions_have_files : StoppedSessionsHaveFiles
stopped_sessions_have_files base seen stops = recorded_have_files base seen (ends_behind [] seen) (λ number ends. recorded_behind number [] None seen stops (λ h. absurd h) ends)

-- a file of one session is its own
one_is_its_own : (base number : ℕ) (seen : List Seen) (text : Option (List ℕ)) (shown : SessionFile) → file base (session number) seen ≡ text
    → Has (option_to_list (option_map (λ text. record { session = number; text = text }) text)) shown → file base (session shown.session) seen ≡ Some shown.text
one_is_its_own base number seen None shown is h = absurd h
one_is_its_own base number seen (Some text) shown is (inl same) = subst (λ (f : SessionFile). file base (session f.session) seen ≡ Some f.text) same is
one_is_its_own base number seen (Some text) shown is (inr h) = absurd h

-- each of the files of some sessions is that of its session
pub of_its_session : (base : ℕ) (seen : List Seen) (numbers : List ℕ) (shown : SessionFile) → Contains (files_of base seen numbers) shown → file base (session shown.session) seen ≡ Some shown.text
of_its_session base seen numbers shown has =
    flat_map_each (session_file base seen) (λ (f : SessionFile). file base (session f.session) seen ≡ Some f.text) numbers
    (λ number f h. one_is_its_own base number seen (file base (session number) seen) f refl h)
    shown (has_from_contains (files_of base seen numbers) shown has)

pub files_are_their_sessions : FilesAreTheirSessions
files_are_their_sessions base items = of_its_session base (seen_items items) (ends (seen_items items))
