-- What was raised while an isolate goes on: more of it, and what taking a sample keeps.
use Rattle.std.proofs.Common.{◌≡◌, ℕ, ◌+◌, ◌^◌, ◌<◌, ◌≤◌, List, [], ◌∷◌, ◌++◌, refl, ap, sym, subst, ◌∙◌, arith}
use Rattle.std.proofs.lemmas.List.{append-nil}
use Rattle.std.specs.Prelude.{Bool, true, false}
use Rattle.guest_program.specs.declared.instr.Func.{Func}
use Rattle.code_event.specs.CodeMap.{ranges, after_events}
use Rattle.code_event.specs.ItemList.{IsStampedBehind, IsStamped}
use Rattle.code_event.specs.MomentLaws.{events_of}
use Rattle.code_event.specs.Symbolizer.{frames_over}
use Rattle.code_event.specs.declared.code_map.Range.{Range}
use Rattle.code_event.specs.declared.tick.Item.{Item}
use Rattle.code_event.specs.declared.tick.Item.TheVariants as item
use Rattle.plain_machine.specs.PlainMachine.{plain}
use Rattle.plain_machine.specs.PlainFrames.{plain_frames}
use Rattle.isolate.specs.RunLaws.{last_time}
use Rattle.pipe_core.proofs.StampedRest.{behind_joins, event_count-append, tick_count-append}
use Rattle.pipe_core.specs.Stamps.{event_count, tick_count}
use Rattle.run_schedule.specs.declared.schedule.What.{What}
use Rattle.run_schedule.specs.declared.schedule.What.TheVariants.{Sampled, Dropped}
use Rattle.raised_so_far.proofs.EntriesRaised.{drops, samples}
use Rattle.raised_so_far.proofs.Items.{events_of-append}
use Rattle.raised_so_far.specs.Laws.{IsNow}
use Rattle.isolate_acts.proofs.Stamped.{after_events-append}
use Rattle.isolate_acts.specs.Progress.{Moment, Progress, IsWithin, entry_time, entry_now}
use Rattle.isolate_acts.specs.Sampling.{sample_of, after_sample, raised_by_sample}
use Rattle.isolate_acts.specs.Stands.{IsMoment, IsGoing}

time_later : (p : Progress) (now : ℕ) → last_time p.schedule.entries < 2 ^ 53 → last_time p.schedule.entries ≤ entry_time p now
time_later p now before = omega arith

-- the ranges after more items, by those before
pub ranges-more : (items more : List Item) → ranges (events_of (items ++ more)) ≡ after_events (ranges (events_of items)) (events_of more)
ranges-more items more = ap ranges (events_of-append items more) ∙ after_events-append [] (events_of items) (events_of more)

module _ (funcs : List Func) (moment : Moment) (p : Progress) (raised : List Item) (is : IsGoing funcs moment p raised) (within : IsWithin p) where
  -- an entry now is at the step reached, and not before the last one
  pub now_is : (now : ℕ) (what : What) → IsNow p.schedule.entries p.step (entry_now p now what)
  now_is now what = record { step_is = refl; time_is = time_later p now within.time }

  -- more items are stamped by the counts
  pub stamped_by : (more : List Item) → IsStampedBehind p.events p.ticks more → IsStamped (raised ++ more)
  stamped_by more stamps =
      let e : p.events ≡ 0 + event_count raised = let had = is.events_are in omega (arith, had) in
      let t : p.ticks ≡ 0 + tick_count raised = let had = is.ticks_are in omega (arith, had) in
      behind_joins 0 0 raised more is.raised_is.stamped (subst (λ n. IsStampedBehind (0 + event_count raised) n more) t (subst (λ n. IsStampedBehind n p.ticks more) e stamps))

  -- the code stays with items that leave its ranges
  pub code_same : (more : List Item) → after_events (ranges (events_of raised)) (events_of more) ≡ ranges (events_of raised) → moment.code ≡ ranges (events_of (raised ++ more))
  code_same more same = is.code_is ∙ sym (ranges-more raised more ∙ same)

  -- the guest's frames are the plain machine's
  pub shows : IsMoment moment → frames_over (ranges (events_of raised)) moment.state moment.stack ≡ plain_frames funcs (plain funcs p.step)
  shows is_moment =
      ap (λ (code : List Range). frames_over code moment.state moment.stack) (sym is.code_is) ∙ is_moment ∙ (λ i. plain_frames (is.funcs_are i) (plain (is.funcs_are i) (sym is.step_is i)))

  pub sample_stands : IsMoment moment → (now : ℕ) (is_in : Bool) → IsGoing funcs moment (after_sample p now is_in) (raised ++ raised_by_sample moment p now is_in)
  sample_stands is_moment now true =
      let more : List Item = item.Tick (sample_of moment p now) ∷ [] in
      let events = event_count-append raised more in
      let ticks = tick_count-append raised more in
      let events_had = is.events_are in
      let ticks_had = is.ticks_are in
      record {
        funcs_are = is.funcs_are;
        raised_is =
            samples funcs p.schedule.base p.schedule.entries p.step raised (entry_now p now Sampled) (sample_of moment p now) is.raised_is (now_is now Sampled) refl (shows is_moment) refl refl refl refl
            (stamped_by more (refl, refl, tt));
        code_is = code_same more refl;
        step_is = is.step_is;
        events_are = omega (arith, events, events_had);
        ticks_are = omega (arith, ticks, ticks_had);
      }
  sample_stands is_moment now false =
      subst (IsGoing funcs moment (after_sample p now false)) (sym (append-nil raised))
      (record {
        funcs_are = is.funcs_are;
        raised_is = drops funcs p.schedule.base p.schedule.entries p.step raised (entry_now p now Dropped) is.raised_is (now_is now Dropped) refl;
        code_is = is.code_is;
        step_is = is.step_is;
        events_are = is.events_are;
        ticks_are = is.ticks_are;
      })
