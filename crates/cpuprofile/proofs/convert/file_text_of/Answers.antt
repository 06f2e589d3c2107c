use Rattle.std.proofs.Common.{subst, sym, arith}
use Rattle.prof_base.proofs.Texts.{text_is_utf8}
use Rattle.cpuprofile.specs.IsFileText.{IsFileText}
use Rattle.cpuprofile.proofs.convert.file_text_of.Goals as goal

pub new-requires : goal.new-requires
new-requires c =
    let text = c.bytes.ensures.is_text in
    subst IsFileText (sym c.bytes.ensures.bytes) (record { short = omega (arith, text.short); utf8 = text_is_utf8 _ text })
