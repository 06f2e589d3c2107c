-- That what optimises a function is the plain machine's operation.
use Rattle.std.proofs.Common.{◌≡◌, ℕ, ◌<◌, List, [], length, refl, ap, ap₂, ◌∙◌, sym, subst}
use Rattle.std.proofs.lemmas.Bool.{cond-true, cond-false, or_parts}
use Rattle.std.specs.Prelude.{Bool, true, false, codes, ◌||◌, nat_lt, Some}
use Rattle.prof_base.specs.declared.ids.FuncId.{FuncId}
use Rattle.guest_program.specs.InlinedSize.{inlined_size}
use Rattle.guest_program.specs.declared.instr.Op.TheVariants as op
use Rattle.code_event.specs.DeoptReasons.{reasons_after}
use Rattle.code_event.specs.declared.event.CodeEvent.{CodeEvent}
use Rattle.code_event.specs.declared.layout.TheConstants.Layout.{MAX_ABOVE, MAX_SLOTS}
use Rattle.code_objects.specs.Changes.{RangesFollow}
use Rattle.code_objects.specs.CodeObjects.{CodeParts, LieAt, optimised_name, plain_name}
use Rattle.guest_machine.proofs.Barring.{KeepsCode, WentOn, all_changed, all_follow, all_given, changed_is, code_same, creates_keeps, creates_optimised, disabled_keeps, disabled_says, disabled_whole, kept_advances, raised_then, whole_with}
use Rattle.guest_machine.proofs.Moved.{then_keeps, unmoved_keeps}
use Rattle.guest_machine.proofs.Saying.{SaysSo, gives_none, gives_none_off, gives_reason, says_off}
use Rattle.guest_machine.specs.Machine.{HasMoved, HasRunOff, IsInState, IsMachine, OpActs, flag_at, program_of}
use Rattle.guest_machine.specs.Raises.{Creates, Disabled, Optimised, Raises, no_reason, reason_of}
use Rattle.guest_machine.specs.Rules.{Change, Choice, Disables, IsCreated, IsSure, Optimises, Then, Unchanged, frames_of, has_code}
use Rattle.plain_machine.specs.PlainMachine.{Code, State, code_at, optimised}
use Rattle.guest_machine.specs.declared.machine.Machine.{Machine}

-- a function's code where it is too large to be optimised
abbrev large_code : Code
large_code = record { optimised = false; disabled = true; reason = Some (codes "too large") }

-- The code of a function after `opt`, in each case.
module _ (size : ℕ) (code : Code) where
  settled_code : (code.optimised || code.disabled) ≡ true → optimised size code ≡ code
  settled_code settled = cond-true (code.optimised || code.disabled) code _ settled

  too_large_code : (code.optimised || code.disabled) ≡ false → nat_lt 4096 size ≡ true → optimised size code ≡ large_code
  too_large_code free large = cond-false (code.optimised || code.disabled) code _ free ∙ cond-true (nat_lt 4096 size) large_code (record code { optimised = true }) large

  created_code : (code.optimised || code.disabled) ≡ false → nat_lt 4096 size ≡ false → optimised size code ≡ record code { optimised = true }
  created_code free small = cond-false (code.optimised || code.disabled) code _ free ∙ cond-false (nat_lt 4096 size) large_code (record code { optimised = true }) small

-- what `opt` does by the rules, in each case
optimises_so : (func : FuncId) (code : Code) (size : ℕ) (b d : Bool) (old new : CodeParts) (events : List CodeEvent) → (code.optimised || code.disabled) ≡ b → nat_lt MAX_SLOTS size ≡ d
    → Choice b Unchanged (Choice d (Disables func (codes "too large")) (Then (IsSure (plain_name func)) (IsCreated (optimised_name func)))) old new events → Optimises func code size old new events
optimises_so func code size b d old new events settled large does =
    subst (λ x. Choice x Unchanged (Choice (nat_lt MAX_SLOTS size) (Disables func (codes "too large")) (Then (IsSure (plain_name func)) (IsCreated (optimised_name func)))) old new events) (sym settled)
    (subst (λ y. Choice b Unchanged (Choice y (Disables func (codes "too large")) (Then (IsSure (plain_name func)) (IsCreated (optimised_name func)))) old new events) (sym large) does)

-- the size of a function's optimised code
abbrev size_of : Machine → FuncId → ℕ
size_of machine func = inlined_size (program_of machine) MAX_ABOVE func.0

-- The machine went on, where a function is optimised or disabled, or is neither.
module _ (old mid new : Machine) (went : WentOn old mid) (func : FuncId) (known : func.0 < length (program_of old)) (before events : List CodeEvent) (settled : Bool)
    (is_settled : (has_code mid.code (optimised_name func) || flag_at mid.disabled func.0) ≡ settled) where
  same_then : mid.code ≡ old.code
  same_then = code_same old mid new went func known

  program_then : program_of mid ≡ program_of old
  program_then = ap (λ c. c.funcs) same_then

  -- the plain machine says so
  code_settled : (code : Code) → has_code mid.code (optimised_name func) ≡ code.optimised → flag_at mid.disabled func.0 ≡ code.disabled → (code.optimised || code.disabled) ≡ settled
  code_settled code has flag = sym (ap₂ (λ a (d : Bool). a || d) has flag) ∙ is_settled

  state_settled : (state : State) → IsInState old state → ((code_at state func.0).optimised || (code_at state func.0).disabled) ≡ settled
  state_settled state is =
      code_settled (code_at state func.0) (ap (λ c. has_code c (optimised_name func)) same_then ∙ is.codes.optimised func) (ap (λ m. flag_at m.disabled func.0) went.same ∙ is.codes.disabled func)

-- It is one of them, and nothing is done.
pub settled_acts : (old mid : Machine) → WentOn old mid → (func : FuncId) → func.0 < length (program_of old) → (events : List CodeEvent) → events ≡ []
    → (has_code mid.code (optimised_name func) || flag_at mid.disabled func.0) ≡ true → OpActs old mid events (op.Opt func)
settled_acts old mid went func known events none settled =
    let size = size_of old func in
    let same = code_same old mid mid went func known in
    let is_so = code_settled old mid mid went func known [] events true settled in
    let state_is = state_settled old mid mid went func known [] events true settled in
    let says_so : SaysSo mid mid func (optimised size) = record {
      optimised = λ code has flag. has ∙ sym (ap (λ (c : Code). c.optimised) (settled_code size code (is_so code has flag)));
      disabled = λ code has flag. flag ∙ sym (ap (λ (c : Code). c.disabled) (settled_code size code (is_so code has flag)));
      other_code = λ other apart. refl;
      other_flags = λ other apart. refl;
    } in
    let keeps : KeepsCode func mid.code mid.code = record { funcs = refl; stays = λ name had. had; others = λ other apart. refl } in
    let advances = kept_advances old mid mid went func known (optimised size) refl keeps says_so in record {
      whole = went.still;
      program = ap (λ c. c.funcs) same;
      advances = advances;
      code = subst (RangesFollow old.code mid.code) (sym none) (λ ranges lie. subst (λ c. LieAt c ranges) (sym same) lie);
      reasons =
          gives_none old events func (optimised size) mid went.risen known (λ state is. ap (λ (c : Code). c.reason) (settled_code size (code_at state func.0) (state_is state is)))
          (λ at why lie. ap (λ es. reasons_after at why es) none);
      rules =
          then_keeps old mid mid events (op.Opt func) went.whole went.going went.moved refl refl (ap (λ c. c.funcs) same) advances
          (λ state frame callers is stack_is index frames. record {
            code = optimises_so func (code_at state func.0) size true (nat_lt MAX_SLOTS size) old.code mid.code events (state_is state is) refl (same, none);
            frames = frames;
          });
    }

-- It is neither.
module _ (old mid new : Machine) (went : WentOn old mid) (func : FuncId) (known : func.0 < length (program_of old)) (before events : List CodeEvent) (none : before ≡ [])
    (free : (has_code mid.code (optimised_name func) || flag_at mid.disabled func.0) ≡ false) where
  code_open : (code : Code) → has_code mid.code (optimised_name func) ≡ code.optimised → flag_at mid.disabled func.0 ≡ code.disabled → (code.optimised || code.disabled) ≡ false
  code_open = code_settled old mid new went func known before events false free

  state_open : (state : State) → IsInState old state → ((code_at state func.0).optimised || (code_at state func.0).disabled) ≡ false
  state_open = state_settled old mid new went func known before events false free

  -- Its code would be too large, and it is disabled.
  large_acts : nat_lt MAX_SLOTS (size_of old func) ≡ true → Disabled func (codes "too large") mid new before events → OpActs old new events (op.Opt func)
  large_acts large is_disabled =
      let reason = codes "too large" in
      let size = size_of old func in
      let new_is = changed_is old mid new went func known reason before events none is_disabled in
      let keeps = disabled_keeps old mid new went func known reason before events none is_disabled in
      let raises = raised_then old mid new went func known reason before events none is_disabled in
      let says_so =
      disabled_says old mid new went func known reason before events none is_disabled (optimised size)
      (λ code has flag.
      let is = too_large_code size code (code_open code has flag) large in
      ((or_parts code.optimised code.disabled (code_open code has flag)).0 ∙ sym (ap (λ (c : Code). c.optimised) is), ap (λ (c : Code). c.disabled) is)) in
      let advances = kept_advances old mid new went func known (optimised size) new_is keeps says_so in
      let program = keeps.funcs ∙ ap (λ c. c.funcs) (code_same old mid new went func known) in record {
        whole = disabled_whole old mid new went func known reason before events none is_disabled;
        program = program;
        advances = advances;
        code = all_follow (Disables func reason) (reason_of (program_of old) func reason) old.code new.code before events none raises;
        reasons =
            gives_reason old events func (optimised size) mid reason went.whole.program went.risen known
            (λ state is. ap (λ (c : Code). c.reason) (too_large_code size (code_at state func.0) (state_open state is) large))
            (all_given (Disables func reason) (reason_of (program_of old) func reason) old.code new.code before events none raises);
        rules =
            then_keeps old mid new events (op.Opt func) went.whole went.going went.moved (ap frames_of new_is) (ap (λ m. m.ended) new_is) program advances
            (λ state frame callers is stack_is index frames. record {
              code =
                  optimises_so func (code_at state func.0) size false true old.code new.code events (state_open state is) large
                  (all_changed (Disables func reason) (reason_of (program_of old) func reason) old.code new.code before events none raises);
              frames = ap frames_of new_is ∙ frames;
            });
      }

  -- It gets optimised code.
  small_acts : nat_lt MAX_SLOTS (size_of old func) ≡ false → Optimised func mid new before events → OpActs old new events (op.Opt func)
  small_acts small is_optimised =
      let change : Change = Then (IsSure (plain_name func)) (IsCreated (optimised_name func)) in
      let size = size_of old func in
      let same = code_same old mid new went func known in
      let flags : new.disabled ≡ mid.disabled = ap (λ m. m.disabled) is_optimised.same in
      let new_is : new ≡ record mid { code = new.code; disabled = new.disabled } = is_optimised.same ∙ ap (λ f. record mid { code = new.code; disabled = f }) (sym flags) in
      let keeps = creates_keeps func mid.code new.code is_optimised.raises.more is_optimised.raises.changed in
      let raises : Raises change no_reason old.code new.code before events = subst (λ c. Raises change no_reason c new.code before events) same is_optimised.raises in
      let says_so : SaysSo mid new func (optimised size) = record {
        optimised = λ code has flag.
            creates_optimised func mid.code new.code is_optimised.raises.more is_optimised.raises.changed
            ∙ sym (ap (λ (c : Code). c.optimised) (created_code size code (code_open code has flag) small));
        disabled = λ code has flag. ap (λ f. flag_at f func.0) flags ∙ flag ∙ sym (ap (λ (c : Code). c.disabled) (created_code size code (code_open code has flag) small));
        other_code = keeps.others;
        other_flags = λ other apart. ap (λ f. flag_at f other.0) flags;
      } in
      let advances = kept_advances old mid new went func known (optimised size) new_is keeps says_so in
      let program = keeps.funcs ∙ ap (λ c. c.funcs) same in record {
        whole = whole_with mid new func went.still new_is (ap length flags) keeps;
        program = program;
        advances = advances;
        code = all_follow change no_reason old.code new.code before events none raises;
        reasons =
            gives_none old events func (optimised size) mid went.risen known
            (λ state is. ap (λ (c : Code). c.reason) (created_code size (code_at state func.0) (state_open state is) small))
            (all_given change no_reason old.code new.code before events none raises);
        rules =
            then_keeps old mid new events (op.Opt func) went.whole went.going went.moved (ap frames_of new_is) (ap (λ m. m.ended) new_is) program advances
            (λ state frame callers is stack_is index frames. record {
              code = optimises_so func (code_at state func.0) size false false old.code new.code events (state_open state is) small (all_changed change no_reason old.code new.code before events none raises);
              frames = ap frames_of new_is ∙ frames;
            });
      }

  creating_case : (b : Bool) → nat_lt MAX_SLOTS (size_of old func) ≡ b → Creates b func mid new before events → OpActs old new events (op.Opt func)
  creating_case true large creates = large_acts large creates
  creating_case false small creates = small_acts small creates

  -- Either is done, as its size says.
  pub creating_acts : Creates (nat_lt MAX_SLOTS (size_of mid func)) func mid new before events → OpActs old new events (op.Opt func)
  creating_acts creates =
      creating_case (nat_lt MAX_SLOTS (size_of old func)) refl
      (subst (λ c. Creates (nat_lt MAX_SLOTS (inlined_size c.funcs MAX_ABOVE func.0)) func mid new before events) (code_same old mid new went func known) creates)

-- Where the body has no next instruction, `opt` ends the program.
pub optimising_ends : (old new : Machine) (func : FuncId) (events : List CodeEvent) → IsMachine new → HasRunOff old new → HasMoved false old new → new.code ≡ old.code → events ≡ [] → OpActs old new events (op.Opt func)
optimising_ends old new func events whole off moved same none =
    let change : Code → Code = optimised (size_of old func) in
    let advances = says_off old new func change off in record {
      whole = whole;
      program = ap (λ c. c.funcs) same;
      advances = advances;
      code = subst (RangesFollow old.code new.code) (sym none) (λ ranges lie. subst (λ c. LieAt c ranges) (sym same) lie);
      reasons = gives_none_off old events func change new off none;
      rules = unmoved_keeps old new events (op.Opt func) advances moved same none;
    }
