-- Where a recording is found in what is seen: from its parts to the recording, and back.
use Rattle.std.proofs.Common.{◌≡◌, ◌⊎◌, ℕ, List, [], ◌∷◌, ◌++◌, refl, ap, ap₂, sym, ◌∙◌, subst, inl, inr, append_assoc, append-nil, eq-eqb, eqb-true, true≢false}
use Rattle.std.proofs.lemmas.Bool.{cond-true, cond-false, cond_both}
use Rattle.std.specs.Prelude.{Bool, true, false, cond, Option, Some, None, option_map, ◌==◌}
use Rattle.std.specs.List.{AllByRecursion}
use Rattle.code_event.proofs.EachElement.{all_of_first, all_of_second}
use Rattle.code_event.specs.DeoptReasons.{DeoptReasons}
use Rattle.code_event.specs.ItemFile.{session}
use Rattle.code_event.specs.Recording.{Recording, is_for, with_tick, recording, recording_behind, ended}
use Rattle.code_event.specs.RecordingLaws.{starts, closes, ClosesWith, ticks_for, IsRecordedIn}
use Rattle.code_event.specs.Seen.{Seen, started, stopped, finished, ticked}
use Rattle.prof_base.specs.declared.ids.SessionId.{SessionId}
use Rattle.code_event.specs.declared.event.Options.{Options}
use Rattle.code_event.specs.declared.recording.Begun.{Begun}
use Rattle.code_event.specs.declared.seen.ResolvedTick.{ResolvedTick}

-- a session that has just begun
abbrev fresh : Options → ℕ → Begun
fresh options time = record { options = options; start = time; ticks = [] }

-- a session with further ticks
abbrev with_ticks : Begun → List ResolvedTick → Begun
with_ticks begun ticks = record begun { ticks = begun.ticks ++ ticks }

no_further_ticks : (begun : Begun) → with_ticks begun [] ≡ begun
no_further_ticks begun = ap (λ ticks. record begun { ticks = ticks }) (append-nil begun.ticks)

-- a tick and then further ones, by whether the first is for the session
one_tick_further : (own : Bool) (tick : ResolvedTick) (begun : Begun) (ticks : List ResolvedTick)
    → with_ticks (cond own (record begun { ticks = begun.ticks ++ tick ∷ [] }) begun) ticks ≡ with_ticks begun (cond own (tick ∷ ticks) ticks)
one_tick_further true tick begun ticks = ap (λ all. record begun { ticks = all }) (append_assoc begun.ticks (tick ∷ []) ticks)
one_tick_further false tick begun ticks = refl

ticks_further : (number : ℕ) (tick : ResolvedTick) (begun : Begun) (seen : List Seen)
    → with_ticks (with_tick number tick begun) (ticks_for number seen) ≡ with_ticks begun (ticks_for number (ticked tick ∷ seen))
ticks_further number tick begun seen = one_tick_further (is_for number tick.only) tick begun (ticks_for number seen)

-- ---- from the parts to the recording

-- a mark that ends a session that has begun
recorded_by_close : (number end : ℕ) (reasons : DeoptReasons) (begun : Begun) (close : Seen) (after : List Seen) → ClosesWith number end reasons close
    → recording_behind number (Some begun) (close ∷ after) ≡ Some (record { begun = begun; end = end; reasons = reasons })
recorded_by_close number end reasons begun (started s options time) after how = absurd how
recorded_by_close number end reasons begun (stopped s time given) after how =
    cond-true (s.0 == number) _ _ (eq-eqb s.0 number how.0) ∙ ap₂ (λ e r. Some (record { begun = begun; end = e; reasons = r })) how.1 how.2
recorded_by_close number end reasons begun (finished time files given) after how = ap₂ (λ e r. Some (record { begun = begun; end = e; reasons = r })) how.0 how.1
recorded_by_close number end reasons begun (ticked tick) after how = absurd how

-- marks that neither start nor end the session only bring ticks
recorded_between : (number : ℕ) (begun : Begun) (between rest : List Seen)
    → AllByRecursion (λ other. closes number other ≡ false) between → AllByRecursion (λ other. starts number other ≡ false) between
    → recording_behind number (Some begun) (between ++ rest) ≡ recording_behind number (Some (with_ticks begun (ticks_for number between))) rest
recorded_between number begun [] rest unended unstarted = ap (λ b. recording_behind number (Some b) rest) (sym (no_further_ticks begun))
recorded_between number begun (started s options time ∷ between) rest unended unstarted =
    cond-false (s.0 == number) _ _ unstarted.0 ∙ recorded_between number begun between rest unended.1 unstarted.1
recorded_between number begun (stopped s time reasons ∷ between) rest unended unstarted =
    cond-false (s.0 == number) _ _ unended.0 ∙ recorded_between number begun between rest unended.1 unstarted.1
recorded_between number begun (finished time files reasons ∷ between) rest unended unstarted = absurd (true≢false unended.0)
recorded_between number begun (ticked tick ∷ between) rest unended unstarted =
    recorded_between number (with_tick number tick begun) between rest unended.1 unstarted.1 ∙ ap (λ b. recording_behind number (Some b) rest) (ticks_further number tick begun between)

-- before a start it does not matter what had begun, where nothing ends the session
recorded_from_start : (number : ℕ) (begun : Option Begun) (before : List Seen) (options : Options) (time : ℕ) (rest : List Seen)
    → AllByRecursion (λ other. closes number other ≡ false) before
    → recording_behind number begun (before ++ started (session number) options time ∷ rest) ≡ recording_behind number (Some (fresh options time)) rest
recorded_from_start number begun [] options time rest unended = cond-true (number == number) _ _ (eq-eqb number number refl)
recorded_from_start number begun (started s o t ∷ before) options time rest unended =
    cond_both (s.0 == number) _ _ (λ told. told ≡ recording_behind number (Some (fresh options time)) rest)
    (λ _. recorded_from_start number (Some (fresh o t)) before options time rest unended.1)
    (λ _. recorded_from_start number begun before options time rest unended.1)
recorded_from_start number begun (stopped s t reasons ∷ before) options time rest unended =
    cond-false (s.0 == number) _ _ unended.0 ∙ recorded_from_start number begun before options time rest unended.1
recorded_from_start number begun (finished t files reasons ∷ before) options time rest unended = absurd (true≢false unended.0)
recorded_from_start number begun (ticked tick ∷ before) options time rest unended = recorded_from_start number (option_map (with_tick number tick) begun) before options time rest unended.1

pub from_parts : (seen : List Seen) (number : ℕ) (told : Recording) → IsRecordedIn seen number told → recording number seen ≡ Some told
from_parts seen number told is =
    let not_before = all_of_first _ is.before is.between is.first_end in
    let not_between = all_of_second _ is.before is.between is.first_end in
    let begun = fresh told.begun.options told.begun.start in
    let ended_told = recorded_by_close number told.end told.reasons (with_ticks begun (ticks_for number is.between)) is.close is.after is.end in
    ap (recording number) (is.parts ∙ append_assoc is.before (started (session number) told.begun.options told.begun.start ∷ is.between) (is.close ∷ is.after))
    ∙ recorded_from_start number None is.before told.begun.options told.begun.start (is.between ++ is.close ∷ is.after) not_before
    ∙ recorded_between number begun is.between (is.close ∷ is.after) not_between is.last_start
    ∙ ended_told
    ∙ ap (λ ticks. Some (record told { begun = record told.begun { ticks = ticks } })) (sym is.ticks)

-- ---- from the recording to the parts

-- The session has begun before what is seen, and ends in it with no further start.
record IsEndedIn (seen : List Seen) (number : ℕ) (begun : Begun) (told : Recording) : Type 0 where
  pub between : List Seen
  pub close : Seen
  pub after : List Seen
  pub parts : seen ≡ between ++ close ∷ after
  pub end : ClosesWith number told.end told.reasons close
  pub first_end : AllByRecursion (λ other. closes number other ≡ false) between
  pub last_start : AllByRecursion (λ other. starts number other ≡ false) between
  pub begun_then : told.begun ≡ with_ticks begun (ticks_for number between)

-- the recording is found in what is seen from a start on, or it goes on from what had begun before
abbrev StandsBehind : ℕ → Option Begun → List Seen → Recording → Type 0
StandsBehind number None seen told = IsRecordedIn seen number told
StandsBehind number (Some begun) seen told = IsRecordedIn seen number told ⊎ IsEndedIn seen number begun told

-- the same after one more mark or tick that does not end the session
recorded_later : (number : ℕ) (one : Seen) (seen : List Seen) (told : Recording) → closes number one ≡ false → IsRecordedIn seen number told → IsRecordedIn (one ∷ seen) number told
recorded_later number one seen told unended is = record {
  before = one ∷ is.before;
  between = is.between;
  close = is.close;
  after = is.after;
  parts = ap (λ l. one ∷ l) is.parts;
  end = is.end;
  first_end = (unended, is.first_end);
  last_start = is.last_start;
  ticks = is.ticks;
}

-- the same where that does not start the session either
ended_later : (number : ℕ) (one : Seen) (seen : List Seen) (begun then : Begun) (told : Recording)
    → closes number one ≡ false → starts number one ≡ false
    → ((between : List Seen) → with_ticks then (ticks_for number between) ≡ with_ticks begun (ticks_for number (one ∷ between)))
    → IsEndedIn seen number then told → IsEndedIn (one ∷ seen) number begun told
ended_later number one seen begun then told unended unstarted further is = record {
  between = one ∷ is.between;
  close = is.close;
  after = is.after;
  parts = ap (λ l. one ∷ l) is.parts;
  end = is.end;
  first_end = (unended, is.first_end);
  last_start = (unstarted, is.last_start);
  begun_then = is.begun_then ∙ further is.between;
}

stands_later : (number : ℕ) (one : Seen) (seen : List Seen) (begun : Option Begun) (told : Recording)
    → closes number one ≡ false → starts number one ≡ false
    → ((b : Begun) (between : List Seen) → with_ticks b (ticks_for number between) ≡ with_ticks b (ticks_for number (one ∷ between)))
    → StandsBehind number begun seen told → StandsBehind number begun (one ∷ seen) told
stands_later number one seen None told unended unstarted further is = recorded_later number one seen told unended is
stands_later number one seen (Some begun) told unended unstarted further (inl is) = inl (recorded_later number one seen told unended is)
stands_later number one seen (Some begun) told unended unstarted further (inr is) = inr (ended_later number one seen begun begun told unended unstarted (further begun) is)

tick_later : (number : ℕ) (tick : ResolvedTick) (seen : List Seen) (begun : Option Begun) (told : Recording)
    → StandsBehind number (option_map (with_tick number tick) begun) seen told → StandsBehind number begun (ticked tick ∷ seen) told
tick_later number tick seen None told is = recorded_later number (ticked tick) seen told refl is
tick_later number tick seen (Some begun) told (inl is) = inl (recorded_later number (ticked tick) seen told refl is)
tick_later number tick seen (Some begun) told (inr is) =
    inr (ended_later number (ticked tick) seen begun (with_tick number tick begun) told refl refl (ticks_further number tick begun) is)

-- where the recording is found from a start on, whatever had begun before
recorded_stands : (number : ℕ) (begun : Option Begun) (seen : List Seen) (told : Recording) → IsRecordedIn seen number told → StandsBehind number begun seen told
recorded_stands number None seen told is = is
recorded_stands number (Some begun) seen told is = inl is

-- a session that ends with no further start after this one begins with it
recorded_with_start : (number : ℕ) (s : SessionId) (options : Options) (time : ℕ) (seen : List Seen) (told : Recording) → s.0 ≡ number
    → StandsBehind number (Some (fresh options time)) seen told → IsRecordedIn (started s options time ∷ seen) number told
recorded_with_start number s options time seen told same (inl is) = recorded_later number (started s options time) seen told refl is
recorded_with_start number s options time seen told same (inr is) = record {
  before = [];
  between = is.between;
  close = is.close;
  after = is.after;
  parts = λ i. started (session (same i)) (sym is.begun_then i).options (sym is.begun_then i).start ∷ is.parts i;
  end = is.end;
  first_end = is.first_end;
  last_start = is.last_start;
  ticks = ap (λ b. b.ticks) is.begun_then;
}

-- what the first mark that ends the session gives
ended_at_close : (number : ℕ) (begun : Option Begun) (close : Seen) (seen : List Seen) (end : ℕ) (reasons : DeoptReasons) (told : Recording)
    → ClosesWith number end reasons close → ended begun end reasons ≡ Some told → StandsBehind number begun (close ∷ seen) told
ended_at_close number None close seen end reasons told how e = absurd (cc)
ended_at_close number (Some begun) close seen end reasons told how e =
    let same : record { begun = begun; end = end; reasons = reasons } ≡ told = cc in
    inr (record {
      between = [];
      close = close;
      after = seen;
      parts = refl;
      end = subst (λ t. ClosesWith number t.end t.reasons close) same how;
      first_end = tt;
      last_start = tt;
      begun_then = sym (ap (λ t. t.begun) same) ∙ sym (no_further_ticks begun);
    })

to_parts_behind : (number : ℕ) (begun : Option Begun) (seen : List Seen) (told : Recording) → recording_behind number begun seen ≡ Some told → StandsBehind number begun seen told
to_parts_behind number begun [] told e = absurd (cc)
to_parts_behind number begun (started s options time ∷ seen) told e =
    cond_both (s.0 == number) _ _ (λ result. result ≡ Some told → StandsBehind number begun (started s options time ∷ seen) told)
    (λ same mine.
    let behind = to_parts_behind number (Some (fresh options time)) seen told mine in
    recorded_stands number begun (started s options time ∷ seen) told (recorded_with_start number s options time seen told (eqb-true s.0 number same) behind))
    (λ other mine. stands_later number (started s options time) seen begun told refl other (λ _ _. refl) (to_parts_behind number begun seen told mine))
    e
to_parts_behind number begun (stopped s time reasons ∷ seen) told e =
    cond_both (s.0 == number) _ _ (λ result. result ≡ Some told → StandsBehind number begun (stopped s time reasons ∷ seen) told)
    (λ same mine. ended_at_close number begun (stopped s time reasons) seen time reasons told (eqb-true s.0 number same, refl, refl) mine)
    (λ other mine. stands_later number (stopped s time reasons) seen begun told other refl (λ _ _. refl) (to_parts_behind number begun seen told mine))
    e
to_parts_behind number begun (finished time files reasons ∷ seen) told e = ended_at_close number begun (finished time files reasons) seen time reasons told (refl, refl) e
to_parts_behind number begun (ticked tick ∷ seen) told e = tick_later number tick seen begun told (to_parts_behind number (option_map (with_tick number tick) begun) seen told e)

pub to_parts : (seen : List Seen) (number : ℕ) (told : Recording) → recording number seen ≡ Some told → IsRecordedIn seen number told
to_parts seen number told e = to_parts_behind number None seen told e
