use Rattle.std.proofs.Common.{◌≡◌, ◌∷◌, [], ◌++◌, length, List, None, refl, subst, sym, arith, length-append}
use Rattle.record_text.specs.declared.script.ScriptLine.{ScriptLine}
use Rattle.record_text.specs.ScriptRules.{script_fault}
use Rattle.record_text.proofs.ScriptSessions.{started_few, kept_more}
use Rattle.record_text.proofs.script_draft.ScriptDraft.with.Goals as goal

pub prove-unreachable-requires : goal.prove-unreachable-requires
prove-unreachable-requires c =
    let same : c.push.new.self ≡ c.self.inside.lines ++ c.args.line ∷ [] = c.in_ok-push.ensures.ok in
    let longer : length c.push.new.self ≡ length (c.self.inside.lines ++ c.args.line ∷ []) = rw same refl in
    omega (arith, c.if-prove.true, c.len.ensures, c.started.ensures, longer, length-append c.self.inside.lines (c.args.line ∷ []), started_few c.self.inside.lines c.self.inside.latest c.self.inside.sessions c.self.invariant)

pub invariant_of-result : goal.invariant_of-result
invariant_of-result c =
    rw c.in_ok-push.ensures.ok
    (kept_more c.self.inside.lines c.self.inside.latest c.self.inside.sessions c.in_ok-sessions.sessions c.args.line c.self.invariant
    (subst (λ (z : List ScriptLine). script_fault z c.args.line ≡ None) (sym c.self.view_is) c.requires) c.in_ok-sessions.ensures)
