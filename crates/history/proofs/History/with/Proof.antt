-- `with` makes the marker and the history around it, with the items of the one that it is given and the value. Assumes `Logic`.
use Rattle.std.proofs.Common.{List, [], ◌∷◌, ◌++◌, refl}
use Rattle.std.proofs.raw_atomic.Walks.{proved}
use mir.MapTy.{inst_fn}
use types.Kit.{‵, raw, ◌⊛◌, ◌$◌, ◌∵◌, !, qed, move, keep, split, fjoin, use0, suffices, done}
use types.Part.{agg}
use types.Run.{enter, returns, and_then, no_more}
use types.ByLocal.{alloc_all, pass_all, free_all, look_at, get, sets}
use denote.Builtin.{RefOf}
use denote.Exit.{yes}
use denote.Param.{param}
use denote.Ref.{shr_vals}
use denote.Steps.{nothing}
use denote.RattleType.{owns}
use denote.Signature.{Slot, plain, types_at}
use denote.Triple.Entry.{Vals, alive}
use denote.Triple.Walked.{Stays, stay_dropped, Goes-dropped, says, walk_of, ends_at}
use Rattle.history.proofs.Made.{at_type, bare, holding, owned_as, made}
use Rattle.history.specs.contracts.History.{the_row}
use Rattle.history.specs.contracts.History.with as f
use Rattle.history.proofs.History.with.Statement.{statement}
use Rattle.history.proofs.History.with.Code as code

pub with_spec : {M : Type 1} → statement M
with_spec 𝓤 𝓛 𝓜 𝓡 wired T laws =
    let c = f.clauses T 𝓛 𝓜.mem 𝓡.returns in let E = f.ended T in let R = param 0 T in
    let lent : Slot 3 = RefOf (0 ∷ []) tt (plain (λ κs. the_row R)) (λ κs. tt) in
    let seen : Slot 3 = RefOf (1 ∷ []) tt (plain (λ κs. R)) (λ κs. tt) in
    let stays : Stays E.signature.params E.kept = (stay_dropped lent yes, (stay_dropped seen yes, tt)) in
    proved 𝓛 E stays c 𝓜 𝓡 (Goes-dropped 𝓛 3 lent yes (λ κs x w. refl), (Goes-dropped 𝓛 3 seen yes (λ κs x w. refl), tt))
    (f.Key.name (at_type T)) (inst_fn (at_type T) code.function) (code.unfolded 𝓤 𝓛.H 𝓜 𝓡 wired (T, tt))
    (λ κs. (shr_vals, (shr_vals, tt))) (λ κs. ((λ h vs is. is.0), ((λ x vs is. is.0), tt))) (λ κs qs bounds a g are.
    let vss : Vals E.signature κs = (shr_vals a.0, (shr_vals a.1.0, tt)) in
    let y : (walk_of 𝓛 E stays c).Ghost = ((κs, qs, bounds, a, vss), g) in
    let longer : List R.Denot = a.0.now.items ++ a.1.0.now ∷ [] in
    qed 𝓛 ((raw (alive 𝓛 E.signature κs qs) ⊛ ‵ (owns (types_at E.signature.params κs) a vss)) ∷ raw ((c κs a).requires g) ∷ []) ∵
    split ! $ keep ! (0 ∷ []) $
    enter ! _ _ _ _ _ $ alloc_all ! (λ l. pass_all ! refl ((tt, tt), ((tt, tt), tt)) $
    sets ! (agg ! (no_more !)) refl (tt, tt) $ sets ! (agg ! (and_then ! (get ! refl) (no_more !))) refl (tt, (tt, tt)) $
    returns ! (look_at ! 0 refl) $ free_all ! refl $
    suffices ! _ (ends_at 𝓛 E stays c y bare (holding R longer) (tt, (tt, tt)) (tt, (tt, tt))) $ says ! refl $
    use0 𝓛 (‵ (owned_as R longer)) (made R 𝓛 longer) $ nothing ! $ nothing ! $ fjoin ! $ nothing ! $ fjoin ! $ move ! (2 ∷ 0 ∷ []) $ done !))
