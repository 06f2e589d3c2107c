-- The file that a stop gives.
use Rattle.std.proofs.Common.{◌≡◌, ℕ, ◌<◌, ◌^◌, List, [], ◌∷◌, ◌++◌, map, refl, sym, ap, subst, ◌∙◌}
use Rattle.std.proofs.lemmas.Option.{none-some}
use Rattle.std.proofs.lemmas.List.Elements.{recursion_from_All}
use Rattle.std.specs.Prelude.{Option, Some, None, option_map, false}
use Rattle.std.specs.List.{All, AllByRecursion}
use Rattle.code_event.specs.DeoptReasons.{DeoptReasons, reasons}
use Rattle.code_event.specs.FileText.{file_text}
use Rattle.code_event.specs.ItemFile.{item_file}
use Rattle.code_event.specs.MomentLaws.{events_of}
use Rattle.code_event.specs.Profile.{profile_of, finished_of, visits_of}
use Rattle.code_event.specs.Recording.{Recording, recording, ended}
use Rattle.code_event.specs.RecordingLaws.{closes}
use Rattle.code_event.specs.Seen.{Seen, stopped, seen_items}
use Rattle.code_event.specs.Subsample.{kept}
use Rattle.code_event.specs.Tree.{nodes, fin_node}
use Rattle.code_event.specs.declared.event.CodeEvent.TheVariants.{Stop}
use Rattle.code_event.specs.declared.event.EventRecord.{EventRecord}
use Rattle.code_event.specs.declared.path.PathStep.{PathStep}
use Rattle.code_event.specs.declared.profile.FinNode.{FinNode}
use Rattle.code_event.specs.declared.profile.Finished.{Finished}
use Rattle.code_event.specs.declared.recording.Begun.{Begun}
use Rattle.code_event.specs.declared.tick.Item.{Item}
use Rattle.code_event.specs.declared.tick.Item.TheVariants as item
use Rattle.code_event.specs.declared.visit.Visit.{Visit}
use Rattle.code_map.specs.CodeMap.{node_with_reason, with_reasons}
use Rattle.code_map.specs.Parts.{MapParts}
use Rattle.cpuprofile.proofs.SeenGives.{seen_gives, given_fit}
use Rattle.cpuprofile.specs.Given.{DeltasFit, HasExactTime}
use Rattle.prof_base.specs.declared.ids.SessionId.{SessionId}
use Rattle.session_book.proofs.OfCalls.{stops_end_what_began}
use Rattle.session_book.specs.Begun.{begun_after}
use Rattle.session_book.specs.Book.{BookParts, StandsFor as IsBookOf}
use Rattle.session_book.specs.Session.{without_reasons}
use Rattle.attribution.specs.Attribution.{StandsFor, HasNotEnded, IsFileOf}
use Rattle.attribution.proofs.Taking.{seen_event, exact_more}

-- a node without its reason
abbrev plain : FinNode → FinNode
plain node = record node { reason = None }

-- nodes that lost their reasons get them again
nodes_again : (all : List (List PathStep)) (visits : List Visit) (why : DeoptReasons) (ns : List (List PathStep))
    → map (node_with_reason why) (map plain (map (fin_node all visits why) ns)) ≡ map (fin_node all visits why) ns
nodes_again all visits why [] = refl
nodes_again all visits why (n ∷ ns) = ap (λ l. fin_node all visits why n ∷ l) (nodes_again all visits why ns)

reasons_again : (id : SessionId) (r : Recording) (why : DeoptReasons) (ticks : List _) → r.reasons ≡ why → with_reasons why (without_reasons (profile_of id r ticks)) ≡ profile_of id r ticks
reasons_again id r why ticks is =
    let visits = visits_of r.begun.options.mode ticks in
    subst (λ w. with_reasons w (without_reasons (profile_of id r ticks)) ≡ profile_of id r ticks) is
    (λ i. record (profile_of id r ticks) { nodes = nodes_again (nodes visits) visits r.reasons (nodes visits) i })

-- each of these nodes has few hits, and so has each before it lost its reason
few_again : (ns : List FinNode) → AllByRecursion (λ node. node.hits < 2 ^ 53) (map plain ns) → AllByRecursion (λ node. node.hits < 2 ^ 53) ns
few_again [] few = tt
few_again (n ∷ ns) few = (few.0, few_again ns few.1)

some_same : {A : Type 0} (x y : A) → Some x ≡ Some y → x ≡ y
some_same x y e = cc

-- the profile of a session that has begun
file_of_begun : (base : ℕ) (id : SessionId) (time : ℕ) (seen : List Seen) (why : DeoptReasons) (so_far : Option Begun) (finished : Finished) (text : List ℕ)
    → recording id.0 (seen ++ stopped id time why ∷ []) ≡ ended so_far time why
    → AllByRecursion HasExactTime seen
    → Some finished ≡ option_map without_reasons (finished_of base id (seen ++ stopped id time why ∷ []))
    → AllByRecursion (λ node. node.hits < 2 ^ 53) finished.nodes
    → (DeltasFit finished → text ≡ file_text (with_reasons why finished))
    → option_map file_text (finished_of base id (seen ++ stopped id time why ∷ [])) ≡ Some text
file_of_begun base id time seen why None finished text recorded exact is few writes =
    let none : finished_of base id (seen ++ stopped id time why ∷ []) ≡ None = ap (option_map (λ (r : Recording). profile_of id r (kept base r.begun))) recorded in
    absurd (none-some finished (sym (is ∙ ap (option_map without_reasons) none)))
file_of_begun base id time seen why (Some begun) finished text recorded exact is few writes =
    let last : List Seen = seen ++ stopped id time why ∷ [] in
    let r : Recording = record { begun = begun; end = time; reasons = why } in
    let whole : Finished = profile_of id r (kept base begun) in
    let found : finished_of base id last ≡ Some whole = ap (option_map (λ (x : Recording). profile_of id x (kept base x.begun))) recorded in
    let same : finished ≡ without_reasons whole = some_same finished (without_reasons whole) (is ∙ ap (option_map without_reasons) found) in
    let few_whole = few_again whole.nodes (subst (λ (f : Finished). AllByRecursion (λ node. node.hits < 2 ^ 53) f.nodes) same few) in
    let given = seen_gives base id last whole found (exact_more seen (stopped id time why ∷ []) exact (tt, tt)) few_whole in
    let fits : DeltasFit finished = subst DeltasFit (sym same) (given_fit whole given) in
    ap (option_map file_text) found ∙ ap (λ f. Some (file_text f)) (sym (ap (with_reasons why) same ∙ reasons_again id r why (kept base begun) refl)) ∙ ap (λ t. Some t) (sym (writes fits))

-- the file that a stop gives, by what the book and the writer gave
pub file_of_stop : (map : MapParts) (after before : BookParts) (id : SessionId) (time : ℕ) (finished : Finished) (text : List ℕ)
    → ((seen : List Seen) (why : DeoptReasons) → IsBookOf before seen → AllByRecursion (λ mark. closes id.0 mark ≡ false) seen
    → Some finished ≡ option_map without_reasons (finished_of before.base id (seen ++ stopped id time why ∷ [])))
    → All (λ node. node.hits < 2 ^ 53) finished.nodes
    → IsFileOf (record { map = map; book = after }) finished text
    → (items : List Item) (e : EventRecord) → e.event ≡ Stop id time → StandsFor (record { map = map; book = before }) items → HasNotEnded id.0 items
    → item_file before.base (items ++ item.Event e ∷ []) id ≡ Some text
unfolding StandsFor
file_of_stop map after before id time finished text gives few writes items e is stands unended =
    let seen : List Seen = seen_items items in
    let why : DeoptReasons = reasons (events_of items) in
    ap (λ s. option_map file_text (finished_of before.base id s)) (seen_event items e (Stop id time) is)
    ∙ file_of_begun before.base id time seen why (begun_after id.0 seen) finished text (stops_end_what_began seen id time why unended) stands.times (gives seen why stands.sessions unended)
    (recursion_from_All (λ (node : FinNode). node.hits < 2 ^ 53) finished.nodes few) (writes why stands.code.reasons)
