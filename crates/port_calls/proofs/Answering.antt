-- Calls that are answered one after another.
use Rattle.std.proofs.Common.{◌≡◌, suc, List, [], ◌∷◌, ◌++◌, length, refl, ap, sym, subst, ◌∙◌}
use Rattle.std.specs.Prelude.{Some, map}
use Rattle.isolate_acts.specs.Calls.{Call, with_calls}
use Rattle.port_calls.specs.Answering.{AreAnswered, all_answered, state_on}
use Rattle.port_calls.specs.AnswerLaws.{CallsJoin, CallsSplit}
use Rattle.port_calls.specs.PortCalls.{call_of}
use Rattle.port_calls.specs.declared.calls.PortCall.{PortCall}

-- what is said of a call in a state, of each of these calls
abbrev pub EachCall : {S : Type 0} → (S → Call → Type 0) → (S → Call → S) → S → List Call → Type 0
EachCall Is after state [] = Unit {0}
EachCall Is after state (call ∷ calls) = Is state call × EachCall Is after (after state call) calls

same_first : {A : Type 0} (x y : A) (xs ys : List A) → x ∷ xs ≡ y ∷ ys → x ≡ y
same_first x y xs ys same = cc

same_rest : {A : Type 0} (x y : A) (xs ys : List A) → x ∷ xs ≡ y ∷ ys → xs ≡ ys
same_rest x y xs ys same = cc

-- of lists that are equal, the parts before and after places that are equally far
same_before : {A : Type 0} (xs ys us vs : List A) → length xs ≡ length ys → xs ++ us ≡ ys ++ vs → xs ≡ ys
same_before [] [] us vs long same = refl
same_before [] (y ∷ ys) us vs long same = absurd (cc long)
same_before (x ∷ xs) [] us vs long same = absurd (cc long)
same_before (x ∷ xs) (y ∷ ys) us vs long same =
    (λ i. same_first x y (xs ++ us) (ys ++ vs) same i ∷ same_before xs ys us vs (cc) (same_rest x y (xs ++ us) (ys ++ vs) same) i)

same_after : {A : Type 0} (xs ys us vs : List A) → length xs ≡ length ys → xs ++ us ≡ ys ++ vs → us ≡ vs
same_after [] [] us vs long same = same
same_after [] (y ∷ ys) us vs long same = absurd (cc long)
same_after (x ∷ xs) [] us vs long same = absurd (cc long)
same_after (x ∷ xs) (y ∷ ys) us vs long same = same_after xs ys us vs (cc) (cc)

same_list : {A : Type 0} (xs ys : List A) → Some xs ≡ Some ys → xs ≡ ys
same_list xs ys same = cc

-- the calls of a longer history
pub calls_more : (history longer : List PortCall) (call : PortCall) → longer ≡ history ++ call ∷ [] → map call_of longer ≡ map call_of history ++ call_of call ∷ []
calls_more history longer call same = ap (λ (l : List PortCall). map call_of l) same ∙ pushed history call where
  pushed : (xs : List PortCall) (x : PortCall) → map call_of (xs ++ x ∷ []) ≡ map call_of xs ++ call_of x ∷ []
  pushed [] x = refl
  pushed (first ∷ xs) x = ap (λ (l : List Call). call_of first ∷ l) (pushed xs x)

-- of all calls, the first
pub first_calls : {S : Type 0} (Is : S → Call → Type 0) (after : S → Call → S) (state : S) (calls more : List Call) → EachCall Is after state (calls ++ more) → EachCall Is after state calls
first_calls Is after state [] more each = tt
first_calls Is after state (first ∷ calls) more each = (each.0, first_calls Is after (after state first) calls more each.1)

-- of all calls, those after the first
pub later_calls : {S : Type 0} (Is : S → Call → Type 0) (after : S → Call → S) (state : S) (calls more : List Call) → EachCall Is after state (calls ++ more)
    → EachCall Is after (state_on after state calls) more
later_calls Is after state [] more each = each
later_calls Is after state (first ∷ calls) more each = later_calls Is after (after state first) calls more each.1

pub state_on-append : {S : Type 0} (after : S → Call → S) (state : S) (calls more : List Call) → state_on after state (calls ++ more) ≡ state_on after (state_on after state calls) more
state_on-append after state [] more = refl
state_on-append after state (call ∷ calls) more = state_on-append after (after state call) calls more

-- the state after a longer history
pub state_more : {S : Type 0} (after : S → Call → S) (first had has : S) (history longer : List PortCall) (call : PortCall) → longer ≡ history ++ call ∷ []
    → had ≡ state_on after first (map call_of history) → has ≡ after had (call_of call) → has ≡ state_on after first (map call_of longer)
state_more after first had has history longer call same before is =
    is ∙ ap (λ state. after state (call_of call)) before
    ∙ sym (ap (state_on after first) (calls_more history longer call same) ∙ state_on-append after first (map call_of history) (call_of call ∷ []))

-- what holds of each call, where it follows from how the call is answered
pub each_call : {S : Type 0} (answer : S → Call → Call) (after : S → Call → S) (Is : S → Call → Type 0) → ((state : S) (call : Call) → call ≡ answer state call → Is state call)
    → (state : S) (calls : List Call) → AreAnswered answer after state calls → EachCall Is after state calls
each_call answer after Is is state [] same = tt
each_call answer after Is is state (call ∷ calls) same = (
  is state call (same_first call (answer state call) calls (all_answered answer after (after state call) calls) same),
  each_call answer after Is is (after state call) calls (same_rest call (answer state call) calls (all_answered answer after (after state call) calls) same),
)

module _ {S : Type 0} (answer : S → Call → Call) (after : S → Call → S) where
  pub all_answered-append : (state : S) (calls more : List Call) → all_answered answer after state (calls ++ more) ≡ all_answered answer after state calls ++ all_answered answer after (state_on after state calls) more
  all_answered-append state [] more = refl
  all_answered-append state (call ∷ calls) more = ap (λ (l : List Call). answer state call ∷ l) (all_answered-append (after state call) calls more)

  answered_length : (state : S) (calls : List Call) → length (all_answered answer after state calls) ≡ length calls
  answered_length state [] = refl
  answered_length state (call ∷ calls) = ap suc (answered_length (after state call) calls)

  -- more calls
  pub joined : (state : S) (calls more : List Call) → AreAnswered answer after state calls → AreAnswered answer after (state_on after state calls) more → AreAnswered answer after state (calls ++ more)
  joined state calls more one other = (λ i. one i ++ other i) ∙ sym (all_answered-append state calls more)

  -- one more call
  pub more_answered : (state : S) (calls : List Call) (call : Call) → AreAnswered answer after state calls → call ≡ answer (state_on after state calls) call → AreAnswered answer after state (calls ++ call ∷ [])
  more_answered state calls call same is = joined state calls (call ∷ []) same (ap (λ (c : Call). c ∷ []) is)

  all_calls : (state : S) (calls more : List Call) → AreAnswered answer after state (calls ++ more) → calls ++ more ≡ all_answered answer after state calls ++ all_answered answer after (state_on after state calls) more
  all_calls state calls more same = same ∙ all_answered-append state calls more

  pub first_answered : (state : S) (calls more : List Call) → AreAnswered answer after state (calls ++ more) → AreAnswered answer after state calls
  first_answered state calls more same =
      same_before calls (all_answered answer after state calls) more (all_answered answer after (state_on after state calls) more) (sym (answered_length state calls)) (all_calls state calls more same)

  pub later_answered : (state : S) (calls more : List Call) → AreAnswered answer after state (calls ++ more) → AreAnswered answer after (state_on after state calls) more
  later_answered state calls more same =
      same_after calls (all_answered answer after state calls) more (all_answered answer after (state_on after state calls) more) (sym (answered_length state calls)) (all_calls state calls more same)

  -- the calls of a turn, where all calls before it and after it are answered
  pub turn_calls : (state : S) (before all more : List Call) → AreAnswered answer after state all → Some all ≡ with_calls (Some before) more → AreAnswered answer after (state_on after state before) more
  turn_calls state before all more each same =
      later_answered state before more (subst (AreAnswered answer after state) (same_list all (before ++ more) same) each)

  -- a longer history is answered too
  pub answered_more : (first had : S) (history longer : List PortCall) (call : PortCall) → longer ≡ history ++ call ∷ [] → had ≡ state_on after first (map call_of history)
      → AreAnswered answer after first (map call_of history) → call_of call ≡ answer had (call_of call) → AreAnswered answer after first (map call_of longer)
  answered_more first had history longer call same before each is =
      subst (AreAnswered answer after first) (sym (calls_more history longer call same))
      (more_answered first (map call_of history) (call_of call) each (subst (λ state. call_of call ≡ answer state (call_of call)) before is))

pub calls_join : {S : Type 0} → CallsJoin S
calls_join answer after state calls more one other = joined answer after state calls more one other

pub calls_split : {S : Type 0} → CallsSplit S
calls_split answer after state calls more same = (first_answered answer after state calls more same, later_answered answer after state calls more same)
