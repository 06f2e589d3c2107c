use Rattle.std.proofs.Common.{◌≡◌, suc, ◌+◌, ap, sym, ◌∙◌, arith}
use Rattle.std.specs.Prelude.{drop}
use Rattle.schedule_ports.specs.ScheduleCalls.{without_next}
use Rattle.schedule_ports.proofs.Places.{drop_next}
use Rattle.schedule_ports.proofs.ports.SchedulePorts.past_next.Goals as goal

pub returns-then-self-entries : goal.returns-then-self-entries
returns-then-self-entries c =
    let now = c.args.self.now in
    let next : now.place.next + 1 ≡ suc now.place.next = omega arith in
    ap (λ n. drop n now.schedule.entries) next ∙ drop_next now.schedule.entries now.place.next ∙ sym (ap without_next now.left)
