use Rattle.std.proofs.Common.{◌∙◌, sym}
use Rattle.record_text.proofs.ScheduleDrafts.{order_fault, session_fault, limit_fault, no_fault_found}
use Rattle.record_text.proofs.schedule_draft.ScheduleDraft.fault.Goals as goal

pub returns-then-not-is_in_order : goal.returns-then-not-is_in_order
returns-then-not-is_in_order c =
    order_fault c.self.inside.schedule c.self.inside.sampled c.self.inside.sessions c.args.entry.now c.args.self.now c.self.invariant c.self.view_is
    (rw c.entries.ensures.entries at (sym c.is_in_order.ensures ∙ c.if-not-is_in_order.true))

pub returns-then-not-has_session : goal.returns-then-not-has_session
returns-then-not-has_session c =
    session_fault c.self.inside.schedule c.self.inside.sampled c.self.inside.sessions c.args.entry.now c.args.self.now c.self.invariant c.self.view_is
    (rw c.entries.ensures.entries at (sym c.is_in_order.ensures ∙ c.if-not-is_in_order.false))
    (sym c.has_session.ensures ∙ c.if-not-has_session.true)

pub returns-then-not-is_within_limits : goal.returns-then-not-is_within_limits
returns-then-not-is_within_limits c =
    limit_fault c.self.inside.schedule c.self.inside.sampled c.self.inside.sessions c.args.entry.now c.args.self.now c.self.invariant c.self.view_is
    (rw c.entries.ensures.entries at (sym c.is_in_order.ensures ∙ c.if-not-is_in_order.false))
    (sym c.has_session.ensures ∙ c.if-not-has_session.false)
    (sym c.is_within_limits.ensures ∙ c.if-not-is_within_limits.true)

pub returns-else-not-is_within_limits : goal.returns-else-not-is_within_limits
returns-else-not-is_within_limits c =
    no_fault_found c.self.inside.schedule c.self.inside.sampled c.self.inside.sessions c.args.entry.now c.args.self.now c.self.invariant c.self.view_is
    (rw c.entries.ensures.entries at (sym c.is_in_order.ensures ∙ c.if-not-is_in_order.false))
    (sym c.has_session.ensures ∙ c.if-not-has_session.false)
    (sym c.is_within_limits.ensures ∙ c.if-not-is_within_limits.false)
