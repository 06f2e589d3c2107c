use Rattle.std.proofs.Common.{sym, subst}
use Rattle.std.specs.Str.{IsUtf8}
use Rattle.prof_base.proofs.Texts.{text_is_utf8}
use Rattle.prof_base.proofs.text.Text.as_str.Goals as goal

pub unreachable-requires : goal.unreachable-requires
unreachable-requires c = c.in-Err.ensures.cases.0 (subst IsUtf8 (sym c.bytes.ensures.bytes) (text_is_utf8 _ c.bytes.ensures.is_text))
