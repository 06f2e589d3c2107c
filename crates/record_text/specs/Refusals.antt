-- What a refusal says of a text.
use Rattle.std.specs.Prelude.{ℕ}
use Rattle.prof_lines.specs.declared.fault.Cause.{Cause}
use Rattle.prof_lines.specs.declared.fault.Cause.TheVariants as causes
use Rattle.record_text.specs.declared.rule.Rule.{Rule}
use Rattle.record_text.specs.declared.rule.Rule.TheVariants as rule
use Rattle.record_text.specs.declared.refused.LineCause.{LineCause}
use Rattle.record_text.specs.declared.refused.LineCause.TheVariants as public
use Rattle.record_text.specs.declared.refused.ReadRefused.{ReadRefused}
use Rattle.record_text.specs.declared.refused.ReadRefused.TheVariants as refused

abbrev pub line_cause : Cause Rule → LineCause
line_cause causes.Word = public.Word
line_cause causes.Number = public.Number
line_cause (causes.Own rule.Order) = public.Order
line_cause (causes.Own rule.Session) = public.Session
line_cause (causes.Own rule.Limit) = public.Limit

-- only out of memory
abbrev pub IsMemory : ReadRefused → Type 0
IsMemory (refused.At number cause) = ⊥
IsMemory refused.Memory = Unit {0}
