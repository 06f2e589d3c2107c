-- The running sessions, and the ports that their files go to.
use Rattle.std.specs.Prelude.{ℕ, List, [], ◌∷◌, filter, find, map, not, ◌==◌}
use Rattle.std.specs.Option.{option_map_or}
use Rattle.std.specs.Ordering.{nat_cmp}
use Rattle.std.specs.declared.cmp.Ordering.{Ordering}
use Rattle.prof_base.specs.Ordered.{insert_sorted}
use Rattle.code_event.specs.declared.event.CodeEvent.{CodeEvent}
use Rattle.code_event.specs.declared.event.CodeEvent.TheVariants.{Start, Stop}
use Rattle.code_event.specs.declared.tick.Item.{Item}
use Rattle.code_event.specs.declared.tick.Item.TheVariants as item
use Rattle.processor.specs.declared.running.SessionPort.{SessionPort}

-- by the numbers of the sessions
abbrev pub by_session : SessionPort → SessionPort → Ordering
by_session one other = nat_cmp one.session.0 other.session.0

-- the numbers of the sessions
abbrev pub sessions_of : List SessionPort → List ℕ
sessions_of running = map (λ r. r.session.0) running

-- the sessions but this one
abbrev pub without_session : ℕ → List SessionPort → List SessionPort
without_session number running = filter (λ r. not (r.session.0 == number)) running

-- the port of a session, or 0 if it does not run
abbrev pub port_in : List SessionPort → ℕ → ℕ
port_in running number = option_map_or (λ r. r.port) (find (λ r. r.session.0 == number) running) 0

-- those that run after an event
abbrev pub running_with : List SessionPort → CodeEvent → List SessionPort
running_with running (Start session options time) = insert_sorted by_session (record { session = session; port = options.port }) running
running_with running (Stop session time) = without_session session.0 running
running_with running other = running

-- those that run after these items, where these run at first
abbrev pub running_on : List SessionPort → List Item → List SessionPort
running_on running [] = running
running_on running (item.Event e ∷ items) = running_on (running_with running e.event) items
running_on running (item.Tick t ∷ items) = running_on running items

-- those that run after these items, in the order of their numbers; the sessions of a finish still run after it
abbrev pub running_ports : List Item → List SessionPort
running_ports items = running_on [] items
