-- Calls that are answered one after another, each by the state that those before it have left. In all of this `answer state call` is the call with what is returned to it in a state, and `after state call` is the state after it.
use Rattle.std.specs.Prelude.{◌≡◌, List, [], ◌∷◌}
use Rattle.isolate_acts.specs.Calls.{Call}

-- the state after these calls
abbrev pub state_on : {S : Type 0} → (S → Call → S) → S → List Call → S
state_on after state [] = state
state_on after state (call ∷ calls) = state_on after (after state call) calls

-- the calls, each with what is returned to it
abbrev pub all_answered : {S : Type 0} → (S → Call → Call) → (S → Call → S) → S → List Call → List Call
all_answered answer after state [] = []
all_answered answer after state (call ∷ calls) = answer state call ∷ all_answered answer after (after state call) calls

-- each of these calls returned what is returned to it
abbrev pub AreAnswered : {S : Type 0} → (S → Call → Call) → (S → Call → S) → S → List Call → Type 0
AreAnswered answer after state calls = calls ≡ all_answered answer after state calls
