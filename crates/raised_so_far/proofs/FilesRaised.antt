-- The files of what a run has raised, in order.
use Rattle.std.proofs.Common.{◌≡◌, ℕ, zero, suc, ◌-◌, List, [], ◌∷◌, ◌++◌, refl, ap, sym, subst, ◌∙◌}
use Rattle.std.proofs.lemmas.List.{append_assoc, append-nil}
use Rattle.std.specs.Prelude.{Bool, true, false, None, if◌then◌else◌}
use Rattle.std.specs.List.{AllByRecursion}
use Rattle.std.specs.Ordering.{nat_cmp}
use Rattle.prof_base.specs.Ordered.{insert_sorted}
use Rattle.guest_program.specs.declared.instr.Func.{Func}
use Rattle.code_event.proofs.EachElement.{all_of_first}
use Rattle.code_event.proofs.FilesGrow.{ends-append, files_grow, open_seen}
use Rattle.code_event.proofs.SeenMore.{seen_more}
use Rattle.code_event.specs.CodeMap.{after_event, ranges}
use Rattle.code_event.specs.DeoptReasons.{DeoptReasons, no_reasons, reasons, reasons_after_event}
use Rattle.code_event.specs.FileLaws.{IsOpen, running_on}
use Rattle.code_event.specs.ItemFile.{ends_behind, files, files_of}
use Rattle.code_event.specs.MomentLaws.{events_of}
use Rattle.code_event.specs.Seen.{Seen, finished, mark, seen_behind, seen_items}
use Rattle.code_event.specs.declared.code_map.Range.{Range}
use Rattle.code_event.specs.declared.event.CodeEvent.{CodeEvent}
use Rattle.code_event.specs.declared.event.CodeEvent.TheVariants.{Create, Move, NoOpt, Deopt, Delete, Start, Stop, Finish}
use Rattle.code_event.specs.declared.tick.Item.{Item}
use Rattle.code_event.specs.declared.tick.Item.TheVariants as item
use Rattle.plain_machine.specs.PlainMachine.{deopts, plain}
use Rattle.plain_machine.specs.PlainFrames.{reasons_of}
use Rattle.run_schedule.specs.Schedule.{Running, none_yet, running_after}
use Rattle.run_schedule.specs.declared.schedule.EndCause.TheVariants as cause
use Rattle.run_schedule.specs.declared.schedule.ScheduleEntry.{ScheduleEntry}
use Rattle.run_schedule.specs.declared.schedule.What.TheVariants as what
use Rattle.isolate.proofs.EntriesMore.{seen_behind-push}
use Rattle.isolate.specs.PlainFile.{given_up, given_up_for, seen_on, tick_at}
use Rattle.isolate.specs.RunLaws.{last_step, last_time, given_up_until}
use Rattle.raised_so_far.specs.FileOrder.{LeavesNoFile, ItemLeavesNoFile, FilesSoFarAreThePlainOnes, WholeRunsHaveThePlainFiles, ShortTurnsAddNoFiles}
use Rattle.raised_so_far.specs.Raised.{IsRaised}

-- ---- the ticks of deoptimisations end no session

given_up_is_open : (funcs : List Func) (time step more : ℕ) → AllByRecursion IsOpen (given_up funcs time step more)
given_up_is_open funcs time step zero = tt
given_up_is_open funcs time step (suc more) =
    let rest = given_up_is_open funcs time (suc step) more in
    elim (deopts funcs step) as (λ (b : Bool). AllByRecursion IsOpen ((if b then tick_at funcs (suc step) time 0 false None ∷ [] else []) ++ given_up funcs time (suc step) more)) [ true ↦ (tt, rest) | false ↦ rest ]

waits_are_open : (running : List Running) (funcs : List Func) (time step more : ℕ) → AllByRecursion IsOpen (given_up_for running funcs time step more)
waits_are_open [] funcs time step more = tt
waits_are_open (first ∷ running) funcs time step more = given_up_is_open funcs time step more

given_up_ends : (running : List ℕ) (funcs : List Func) (time step more : ℕ) → ends_behind running (given_up funcs time step more) ≡ []
given_up_ends running funcs time step zero = refl
given_up_ends running funcs time step (suc more) =
    let rest = given_up_ends running funcs time (suc step) more in
    elim (deopts funcs step) as (λ (b : Bool). ends_behind running ((if b then tick_at funcs (suc step) time 0 false None ∷ [] else []) ++ given_up funcs time (suc step) more) ≡ []) [ true ↦ rest | false ↦ rest ]

waits_end : (numbers : List ℕ) (running : List Running) (funcs : List Func) (time step more : ℕ) → ends_behind numbers (given_up_for running funcs time step more) ≡ []
waits_end numbers [] funcs time step more = refl
waits_end numbers (first ∷ running) funcs time step more = given_up_ends numbers funcs time step more

-- ---- nor do items that leave no file

no_file_ends : (running : List ℕ) (why : DeoptReasons) (event : CodeEvent) (seen : List Seen) → LeavesNoFile event → ((numbers : List ℕ) → ends_behind numbers seen ≡ []) → ends_behind running (mark why event ++ seen) ≡ []
no_file_ends running why (Create start layout) seen none rest = rest running
no_file_ends running why (Move from to) seen none rest = rest running
no_file_ends running why (NoOpt start reason) seen none rest = rest running
no_file_ends running why (Deopt start reason) seen none rest = rest running
no_file_ends running why (Delete start) seen none rest = rest running
no_file_ends running why (Start s options time) seen none rest = rest (insert_sorted nat_cmp s.0 running)
no_file_ends running why (Stop s time) seen none rest = absurd none
no_file_ends running why (Finish time has_files) seen none rest = ap (λ (b : Bool). if b then running else []) none

no_files_end : (at : List Range) (why : DeoptReasons) (items : List Item) → AllByRecursion ItemLeavesNoFile items → (running : List ℕ) → ends_behind running (seen_behind at why items) ≡ []
no_files_end at why [] none running = refl
no_files_end at why (item.Event e ∷ items) none running =
    let after = after_event at e.event in
    let later = reasons_after_event at why e.event in
    no_file_ends running why e.event (seen_behind after later items) none.0 (no_files_end after later items none.1)
no_files_end at why (item.Tick t ∷ items) none running = no_files_end at why items none.1 running

-- ---- the files stay as they are

-- after what is seen of entries, the ticks of deoptimisations and whatever ends no session add no file
same_files : (base : ℕ) (seen : List Seen) (running : List Running) (funcs : List Func) (time step more : ℕ) (rest : List Seen) → AllByRecursion IsOpen seen → ((numbers : List ℕ) → ends_behind numbers rest ≡ [])
    → files base (seen ++ (given_up_for running funcs time step more ++ rest)) ≡ files base seen
same_files base seen running funcs time step more rest unfinished none =
    let waits : List Seen = given_up_for running funcs time step more in
    let later : ends_behind (running_on [] seen) (waits ++ rest) ≡ [] =
    ends-append (running_on [] seen) waits rest (waits_are_open running funcs time step more)
    ∙ (λ i. waits_end (running_on [] seen) running funcs time step more i ++ none (running_on (running_on [] seen) waits) i) in
    files_grow base seen (waits ++ rest) unfinished
    ∙ ap (λ (numbers : List ℕ). files base seen ++ files_of base (seen ++ (waits ++ rest)) numbers) later ∙ append-nil (files base seen)

module _ (funcs : List Func) (base : ℕ) (entries : List ScheduleEntry) (step : ℕ) (raised : List Item) (is : IsRaised funcs base entries step raised) where
  entries_are_open : AllByRecursion IsOpen (seen_on funcs base entries)
  entries_are_open =
      all_of_first IsOpen (seen_on funcs base entries) (given_up_until funcs entries step)
      (subst (AllByRecursion IsOpen) is.seen (open_seen [] no_reasons raised is.unfinished))

  -- what is raised last and leaves no file
  files_stay : (more : List Item) → AllByRecursion ItemLeavesNoFile more → files base (seen_items (raised ++ more)) ≡ files base (seen_on funcs base entries)
  files_stay more none =
      let before : List Seen = seen_on funcs base entries in
      let waits : List Seen = given_up_until funcs entries step in
      let rest : List Seen = seen_behind (ranges (events_of raised)) (reasons (events_of raised)) more in
      let all : seen_items (raised ++ more) ≡ before ++ (waits ++ rest) = seen_more [] no_reasons raised more ∙ ap (λ (seen : List Seen). seen ++ rest) is.seen ∙ append_assoc before waits rest in
      ap (files base) all
      ∙ same_files base before (running_after entries) funcs (last_time entries) (last_step entries) (step - last_step entries) rest entries_are_open
      (no_files_end (ranges (events_of raised)) (reasons (events_of raised)) more none)

pub files_so_far : FilesSoFarAreThePlainOnes
files_so_far funcs schedule step raised is =
    ap (λ (items : List Item). files schedule.base (seen_items items)) (sym (append-nil raised)) ∙ files_stay funcs schedule.base schedule.entries step raised is [] tt

pub whole_runs : WholeRunsHaveThePlainFiles
whole_runs funcs schedule raised is other = ap (files schedule.base) (is.seen other)

pub short_turns : ShortTurnsAddNoFiles
short_turns funcs schedule entries step time raised more is split none =
    let base : ℕ = schedule.base in
    let before : List Seen = seen_on funcs base entries in
    let waits : List Seen = given_up_until funcs entries step in
    let own : List Seen = finished time false (reasons_of funcs (plain funcs step)) ∷ [] in
    let run : seen_on funcs base schedule.entries ≡ before ++ (waits ++ own) =
    ap (λ (all : List ScheduleEntry). seen_on funcs base all) split
    ∙ seen_behind-push funcs base none_yet 0 0 entries (record { step = step; time = time; what = what.End cause.Memory }) ∙ append_assoc before waits own in
    files_stay funcs base entries step raised is more none
    ∙ sym (ap (files base) run
    ∙ same_files base before (running_after entries) funcs (last_time entries) (last_step entries) (step - last_step entries) own (entries_are_open funcs base entries step raised is) (λ numbers. refl))
