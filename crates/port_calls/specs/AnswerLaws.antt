-- Answered calls follow one another.
use Rattle.std.specs.Prelude.{List, ◌++◌}
use Rattle.isolate_acts.specs.Calls.{Call}
use Rattle.port_calls.specs.Answering.{AreAnswered, state_on}

-- calls that are answered, and more that are answered from the state after them, are answered together
abbrev pub CallsJoin : Type 0 → Type 0
CallsJoin S =
    (answer : S → Call → Call) (after : S → Call → S) (state : S) (calls more : List Call)
    → AreAnswered answer after state calls → AreAnswered answer after (state_on after state calls) more → AreAnswered answer after state (calls ++ more)

-- where calls are answered together, so are the first of them, and the others from the state after those
abbrev pub CallsSplit : Type 0 → Type 0
CallsSplit S =
    (answer : S → Call → Call) (after : S → Call → S) (state : S) (calls more : List Call) → AreAnswered answer after state (calls ++ more)
    → AreAnswered answer after state calls × AreAnswered answer after (state_on after state calls) more
