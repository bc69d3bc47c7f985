-- every step keeps some placed CPU online, and marks with those that may have set them
use Rattle.std.proofs.Common.{◌≡◌, ◌≢◌, ◌⊎◌, inl, inr, ℕ, ◌<◌, Bool, true, false, true≢false, cond, length, get_or, set, Option, Some, None, refl, sym, ap, ◌∙◌, subst, arith}
use Rattle.std.specs.Prelude.{◌==◌, option_map}
use Rattle.std.proofs.lemmas.Bool.{cases_eq}
use Rattle.std.proofs.lemmas.List.{get_or-set_same, get_or-set_other}
use Rattle.std.proofs.lemmas.Option.{none-some, same_Some}
use Rattle.std.proofs.Math.ListN.{length-set}
use Rattle.tm_base.specs.declared.names.TheConstants.{NEVER}
use Rattle.tm_base.specs.declared.names.Class.{Class}
use Rattle.wheel_core.specs.declared.item.Item.{Item}
use Rattle.tree_plan.specs.Shape.{Shape}
use Rattle.tree_plan.specs.Paths.{is_placed_in}
use Rattle.walk_rules.specs.declared.walk.Walk.{Walk}
use Rattle.walk_rules.specs.declared.walk.WalkKind.{WalkKind}
use Rattle.walk_rules.specs.declared.walk.WalkKind.TheVariants as kinds
use Rattle.walk_rules.specs.declared.walk.Stage.{Stage}
use Rattle.walk_rules.specs.declared.walk.Stage.TheVariants as stages
use Rattle.walk_rules.specs.Scene.{Group}
use Rattle.walk_rules.specs.Stages.{at_stage, mark_next, see_child_next, swap_next, up_next}
use Rattle.core_world.specs.declared.step.Step.TheVariants as steps
use Rattle.core_world.specs.Enabled.{IsReevaluating, MayGoOn}
use Rattle.core_world.specs.Marks.{IsMarker, SomePlaced}
use Rattle.core_world.specs.Steps.{child_on, finished, first_moved, giver, moved_with, swapped, taker, walk_made, walked, with_walk}
use Rattle.walk_rules.specs.Stages.{begun_where}
use Rattle.core_world.specs.World.{CpuRecord, World, cpu_of, group_of, moved, no_cpu, own, reads_at, stale_walk}
use Rattle.core_world.proofs.Moves.{beside, cpu_else, cpu_same}
use Rattle.core_world.proofs.Quiet.{own_field}
use Rattle.core_laws.proofs.Walks.Stands.{free_kind, freed_kind}
use Rattle.core_laws.specs.Marks.Layer.{PlacedAndMarked, MarkersStayFit}

-- what is read of a CPU: whether it is online and inside, its mark, and whether its walk is a Reeval one
abbrev is_reeval : WalkKind → Bool
is_reeval kinds.Activate = false
is_reeval kinds.Deactivate = false
is_reeval kinds.Offline = false
is_reeval kinds.Reeval = true
is_reeval (kinds.Remote by) = false

abbrev reevaluates : Option Walk → Bool
reevaluates None = false
reevaluates (Some k) = is_reeval k.kind

reeval_is : (kind : WalkKind) → is_reeval kind ≡ true → kind ≡ kinds.Reeval
reeval_is kinds.Activate e = absurd (true≢false (sym e))
reeval_is kinds.Deactivate e = absurd (true≢false (sym e))
reeval_is kinds.Offline e = absurd (true≢false (sym e))
reeval_is kinds.Reeval e = refl
reeval_is (kinds.Remote by) e = absurd (true≢false (sym e))

reevaluating : (w : World) (c : ℕ) → IsReevaluating w c → reevaluates (cpu_of w c).walk ≡ true
reevaluating w c r = ap reevaluates r.walk ∙ ap is_reeval r.kind

found : (m : Option Walk) → reevaluates m ≡ true → (k : Walk) × (m ≡ Some k) × (k.kind ≡ kinds.Reeval)
found None e = absurd (true≢false (sym e))
found (Some k) e = (k, refl, reeval_is k.kind e)

is_reevaluating : (w : World) (c : ℕ) → reevaluates (cpu_of w c).walk ≡ true → IsReevaluating w c
is_reevaluating w c e = let p = found (cpu_of w c).walk e in record { made = p.0; walk = p.1; kind = p.2 }

stale_reeval : (b : Bool) (k : Walk) → is_reeval (cond b (record k { fresh = false }) k).kind ≡ is_reeval k.kind
stale_reeval true k = refl
stale_reeval false k = refl

stale_same : (t : Shape) (g d : ℕ) (m : Option Walk) → reevaluates (option_map (stale_walk t g d) m) ≡ reevaluates m
stale_same t g d None = refl
stale_same t g d (Some k) = stale_reeval (reads_at t g d k) k

beside_online : (t : Shape) (r : Bool) (g d : ℕ) (y : CpuRecord) → (beside t r g d y).online ≡ y.online
beside_online t true g d y = refl
beside_online t false g d y = refl

beside_inside : (t : Shape) (r : Bool) (g d : ℕ) (y : CpuRecord) → (beside t r g d y).inside ≡ y.inside
beside_inside t true g d y = refl
beside_inside t false g d y = refl

beside_mark : (t : Shape) (r : Bool) (g d : ℕ) (y : CpuRecord) → (beside t r g d y).mark ≡ y.mark
beside_mark t true g d y = refl
beside_mark t false g d y = refl

beside_reeval : (t : Shape) (r : Bool) (g d : ℕ) (y : CpuRecord) → reevaluates (beside t r g d y).walk ≡ reevaluates y.walk
beside_reeval t true g d y = stale_same t g d y.walk
beside_reeval t false g d y = refl

-- A CHANGE OF ONE CPU: it may be named by a mark still, and whom its mark names may be
module _ (w v : World) (c : ℕ) (y : CpuRecord) (tree : v.tree ≡ w.tree) (own_is : cpu_of v c ≡ y)
    (online : (d : ℕ) → d ≢ c → (cpu_of v d).online ≡ (cpu_of w d).online) (inside : (d : ℕ) → d ≢ c → (cpu_of v d).inside ≡ (cpu_of w d).inside)
    (mark : (d : ℕ) → d ≢ c → (cpu_of v d).mark ≡ (cpu_of w d).mark) (reeval : (d : ℕ) → d ≢ c → reevaluates (cpu_of v d).walk ≡ reevaluates (cpu_of w d).walk) where
  marker_else : (b : ℕ) → b ≢ c → IsMarker w b → IsMarker v b
  marker_else b ne m = record {
    placed = subst (λ t. is_placed_in t b ≡ true) (sym tree) m.placed;
    online = online b ne ∙ m.online;
    inside = inside b ne ∙ m.inside;
    goes_on = λ r. m.goes_on (is_reevaluating w b (sym (reeval b ne) ∙ reevaluating v b r));
  }

  marker_own : is_placed_in w.tree c ≡ true → y.online ≡ true → y.inside ≡ true → reevaluates y.walk ≡ false → IsMarker v c
  marker_own placed on in_it goes = record {
    placed = subst (λ t. is_placed_in t c ≡ true) (sym tree) placed;
    online = ap (λ (z : CpuRecord). z.online) own_is ∙ on;
    inside = ap (λ (z : CpuRecord). z.inside) own_is ∙ in_it;
    goes_on = λ r. true≢false (sym (reevaluating v c r) ∙ (ap (λ (z : CpuRecord). reevaluates z.walk) own_is ∙ goes));
  }

  one_changed : PlacedAndMarked w → (SomePlaced w → SomePlaced v) → (IsMarker w c → (y.online ≡ true) × (y.inside ≡ true) × (reevaluates y.walk ≡ false)) → ((b : ℕ) → y.mark ≡ Some b → ((cpu_of w c).mark ≡ Some b) ⊎ IsMarker v b) → PlacedAndMarked v
  one_changed f some stays named = record {
    some_placed = some f.some_placed;
    markers = λ d b is. elim (cases_eq d c) [
      | inl same ↦ elim (named b (sym (ap (λ (z : CpuRecord). z.mark) own_is) ∙ (ap (λ n. (cpu_of v n).mark) (sym same) ∙ is))) [
        | inl was ↦ kept b (f.markers c b was)
        | inr new ↦ new
      ]
      | inr ne ↦ kept b (f.markers d b (sym (mark d ne) ∙ is))
    ];
  }
    where
      kept : (b : ℕ) → IsMarker w b → IsMarker v b
      kept b m = elim (cases_eq b c) [
        | inl same ↦ (let q = subst (IsMarker w) same m in let p = stays q in subst (IsMarker v) (sym same) (marker_own q.placed p.0 p.1 p.2))
        | inr ne ↦ marker_else b ne m
      ]

  -- where the CPU stays online, some placed one does
  placed_on : y.online ≡ (cpu_of w c).online → SomePlaced w → SomePlaced v
  placed_on same s = record {
    cpu = s.cpu;
    placed = subst (λ t. is_placed_in t s.cpu ≡ true) (sym tree) s.placed;
    online = elim (cases_eq s.cpu c) [
      | inl is ↦ subst (λ n. (cpu_of v n).online ≡ true) (sym is) (ap (λ (z : CpuRecord). z.online) own_is ∙ (same ∙ subst (λ n. (cpu_of w n).online ≡ true) is s.online))
      | inr ne ↦ online s.cpu ne ∙ s.online
    ];
  }

  placed_else : (d : ℕ) → d ≢ c → is_placed_in w.tree d ≡ true → (cpu_of w d).online ≡ true → SomePlaced v
  placed_else d ne placed on = record { cpu = d; placed = subst (λ t. is_placed_in t d ≡ true) (sym tree) placed; online = online d ne ∙ on }

-- A STEP OF THE GENERAL FORM
module _ (w : World) (g : ℕ) (x : Group) (c : ℕ) (y : CpuRecord) (r : Bool) (hc : c < length w.cpus) (f : PlacedAndMarked w) where
  v : World
  v = moved w g x c y r

  general : (SomePlaced w → SomePlaced (moved w g x c y r)) → (IsMarker w c → (y.online ≡ true) × (y.inside ≡ true) × (reevaluates y.walk ≡ false))
      → ((b : ℕ) → y.mark ≡ Some b → ((cpu_of w c).mark ≡ Some b) ⊎ IsMarker (moved w g x c y r) b) → PlacedAndMarked (moved w g x c y r)
  general = one_changed w (moved w g x c y r) c y refl (cpu_same w g x c y r hc)
      (λ d ne. ap (λ (z : CpuRecord). z.online) (cpu_else w g x c y r d ne) ∙ beside_online w.tree r g d (cpu_of w d))
      (λ d ne. ap (λ (z : CpuRecord). z.inside) (cpu_else w g x c y r d ne) ∙ beside_inside w.tree r g d (cpu_of w d))
      (λ d ne. ap (λ (z : CpuRecord). z.mark) (cpu_else w g x c y r d ne) ∙ beside_mark w.tree r g d (cpu_of w d))
      (λ d ne. ap (λ (z : CpuRecord). reevaluates z.walk) (cpu_else w g x c y r d ne) ∙ beside_reeval w.tree r g d (cpu_of w d)) f

  stays_online : y.online ≡ (cpu_of w c).online → SomePlaced w → SomePlaced (moved w g x c y r)
  stays_online = placed_on w (moved w g x c y r) c y refl (cpu_same w g x c y r hc)
      (λ d ne. ap (λ (z : CpuRecord). z.online) (cpu_else w g x c y r d ne) ∙ beside_online w.tree r g d (cpu_of w d))
      (λ d ne. ap (λ (z : CpuRecord). z.inside) (cpu_else w g x c y r d ne) ∙ beside_inside w.tree r g d (cpu_of w d))
      (λ d ne. ap (λ (z : CpuRecord). z.mark) (cpu_else w g x c y r d ne) ∙ beside_mark w.tree r g d (cpu_of w d))
      (λ d ne. ap (λ (z : CpuRecord). reevaluates z.walk) (cpu_else w g x c y r d ne) ∙ beside_reeval w.tree r g d (cpu_of w d))

  else_online : (d : ℕ) → d ≢ c → is_placed_in w.tree d ≡ true → (cpu_of w d).online ≡ true → SomePlaced (moved w g x c y r)
  else_online d ne placed on = record { cpu = d; placed = placed; online = ap (λ (z : CpuRecord). z.online) (cpu_else w g x c y r d ne) ∙ (beside_online w.tree r g d (cpu_of w d) ∙ on) }

  -- online, inside and mark stay, and no Reeval walk begins
  steady : y.online ≡ (cpu_of w c).online → y.inside ≡ (cpu_of w c).inside → y.mark ≡ (cpu_of w c).mark → (reevaluates y.walk ≡ true → reevaluates (cpu_of w c).walk ≡ true) → PlacedAndMarked (moved w g x c y r)
  steady on in_it mark goes = general (stays_online on) (λ m. (on ∙ m.online, in_it ∙ m.inside, either (reevaluates y.walk) (λ e. m.goes_on (is_reevaluating w c (goes e))))) (λ b e. inl (sym mark ∙ e))
    where
      either : (q : Bool) → (q ≡ true → ⊥) → q ≡ false
      either true refuse = absurd (refuse refl)
      either false refuse = refl

see_kind : (on : Bool) (k : Walk) → (see_child_next on k).kind ≡ k.kind
see_kind true k = refl
see_kind false k = refl

up_reeval : (top more : Bool) (k : Walk) → reevaluates (up_next top more k) ≡ true → is_reeval k.kind ≡ true
up_reeval true more k e = absurd (true≢false (sym e))
up_reeval false more k e = e

mark_reeval : (more : Bool) (k : Walk) → reevaluates (mark_next more k) ≡ true → is_reeval k.kind ≡ true
mark_reeval true k e = e
mark_reeval false k e = absurd (true≢false (sym e))

handing_reeval : (q : Bool) (k : Walk) → reevaluates (cond q None (Some (at_stage k stages.Handing))) ≡ true → is_reeval k.kind ≡ true
handing_reeval true k e = absurd (true≢false (sym e))
handing_reeval false k e = e

begun_reeval : (q : Bool) (kind : WalkKind) (stage : Stage) (pin next : ℕ) → is_reeval kind ≡ false → reevaluates (begun_where q kind stage pin next) ≡ false
begun_reeval true kind stage pin next e = e
begun_reeval false kinds.Activate stage pin next e = refl
begun_reeval false kinds.Deactivate stage pin next e = refl
begun_reeval false kinds.Offline stage pin next e = refl
begun_reeval false kinds.Reeval stage pin next e = absurd (true≢false e)
begun_reeval false (kinds.Remote by) stage pin next e = refl

module _ (w : World) (c : ℕ) (k : Walk) (hc : c < length w.cpus) (f : PlacedAndMarked w) (is : (cpu_of w c).walk ≡ Some k) where
  on_walk : (g : ℕ) (x : Group) (m : Option Walk) (r : Bool) → (reevaluates m ≡ true → is_reeval k.kind ≡ true) → PlacedAndMarked (moved w g x c (with_walk (cpu_of w c) m) r)
  on_walk g x m r goes = steady w g x c (with_walk (cpu_of w c) m) r hc f refl refl refl (λ e. ap reevaluates is ∙ goes e)

  on_some : (g : ℕ) (x : Group) (j : Walk) (r : Bool) → j.kind ≡ k.kind → PlacedAndMarked (moved w g x c (with_walk (cpu_of w c) (Some j)) r)
  on_some g x j r same = on_walk g x (Some j) r (λ e. ap is_reeval (sym same) ∙ e)

  swap_marks : (fresh : Bool) → PlacedAndMarked (swapped w c k fresh)
  swap_marks true = on_some _ _ (swap_next true k) true refl
  swap_marks false = on_some 0 (group_of w 0) (swap_next false k) false refl

  finish : (kind : WalkKind) → k.kind ≡ kind → PlacedAndMarked (own w c (finished (cpu_of w c) k kind))
  finish kinds.Activate same = on_walk 0 (group_of w 0) None false (λ e. absurd (true≢false (sym e)))
  finish kinds.Deactivate same = steady w 0 (group_of w 0) c (finished (cpu_of w c) k kinds.Deactivate) false hc f refl refl refl (λ e. absurd (true≢false (sym e)))
  finish kinds.Offline same = on_walk 0 (group_of w 0) (cond (k.first == NEVER) None (Some (at_stage k stages.Handing))) false (handing_reeval (k.first == NEVER) k)
  finish kinds.Reeval same = general w 0 (group_of w 0) c (finished (cpu_of w c) k kinds.Reeval) false hc f (stays_online w 0 (group_of w 0) c (finished (cpu_of w c) k kinds.Reeval) false hc f refl)
      (λ m. absurd (m.goes_on (record { made = k; walk = is; kind = same }))) (λ b e. inl e)
  finish (kinds.Remote by) same = general w 0 (group_of w 0) c (finished (cpu_of w c) k (kinds.Remote by)) false hc f (stays_online w 0 (group_of w 0) c (finished (cpu_of w c) k (kinds.Remote by)) false hc f refl)
      (λ m. (m.online, m.inside, refl)) (λ b e. absurd (none-some b e))

  by_stage : (st : Stage) → MayGoOn w c k st → PlacedAndMarked (walked w c k st)
  by_stage stages.Own may = on_some _ _ _ false refl
  by_stage stages.Up may = on_walk _ _ _ true (up_reeval _ _ k)
  by_stage (stages.Mark more) may = on_walk _ _ _ false (mark_reeval more k)
  by_stage stages.Read may = on_some 0 (group_of w 0) _ false refl
  by_stage stages.Child may = on_some 0 (group_of w 0) _ false refl
  by_stage stages.LockChild may = on_some _ _ _ false refl
  by_stage stages.LockGroup may = on_some _ _ _ false refl
  by_stage stages.SeeChild may = on_some 0 (group_of w 0) _ false (see_kind (child_on w c k.level) k)
  by_stage stages.SeeGroup may = on_some 0 (group_of w 0) _ false refl
  by_stage (stages.Scan j) may = on_some 0 (group_of w 0) _ false refl
  by_stage stages.Store may = on_some _ _ _ false refl
  by_stage (stages.First j) may = on_some 0 (group_of w 0) _ false refl
  by_stage stages.FreeGroup may = on_some _ _ _ false (free_kind k.level k)
  by_stage stages.FreeChild may = on_some _ _ _ false (freed_kind k.over k)
  by_stage stages.Swap may = swap_marks k.fresh
  by_stage stages.Finish may = finish k.kind refl
  by_stage stages.Handing may = absurd may

-- MOVE changes bases alone
two_field : (w : World) (from to : ℕ) (m : Class × Item) → from < length w.cpus → to < length w.cpus → {X : Type 0} (f : CpuRecord → X)
    → f (giver w from to m.0) ≡ f (cpu_of w from) → f (taker w to m.0 m.1) ≡ f (cpu_of w to) → (d : ℕ) → f (cpu_of (moved_with w from to (Some m)) d) ≡ f (cpu_of w d)
two_field w from to m hf ht f ea eb d = elim (cases_eq d to) [
  | inl same ↦ subst (λ n. f (get_or (set (set w.cpus from (giver w from to m.0)) to (taker w to m.0 m.1)) n no_cpu) ≡ f (cpu_of w n)) (sym same)
      (ap f (get_or-set_same (set w.cpus from (giver w from to m.0)) to (taker w to m.0 m.1) no_cpu (omega (arith, length-set w.cpus from (giver w from to m.0)))) ∙ eb)
  | inr ne ↦ ap f (get_or-set_other (set w.cpus from (giver w from to m.0)) to d (taker w to m.0 m.1) no_cpu ne) ∙ elim (cases_eq d from) [
    | inl same ↦ subst (λ n. f (get_or (set w.cpus from (giver w from to m.0)) n no_cpu) ≡ f (cpu_of w n)) (sym same) (ap f (get_or-set_same w.cpus from (giver w from to m.0) no_cpu hf) ∙ ea)
    | inr ne' ↦ ap f (get_or-set_other w.cpus from d (giver w from to m.0) no_cpu ne')
  ]
]

move_marks : (w : World) (from to : ℕ) (m : Option (Class × Item)) → from < length w.cpus → to < length w.cpus → PlacedAndMarked w → PlacedAndMarked (moved_with w from to m)
move_marks w from to None hf ht f = f
move_marks w from to (Some m) hf ht f = record {
  some_placed = record { cpu = f.some_placed.cpu; placed = f.some_placed.placed; online = two_field w from to m hf ht (λ z. z.online) refl refl f.some_placed.cpu ∙ f.some_placed.online };
  markers = λ c b is.
      (let q = f.markers c b (sym (two_field w from to m hf ht (λ z. z.mark) refl refl c) ∙ is) in
      record {
        placed = q.placed;
        online = two_field w from to m hf ht (λ z. z.online) refl refl b ∙ q.online;
        inside = two_field w from to m hf ht (λ z. z.inside) refl refl b ∙ q.inside;
        goes_on = λ r. q.goes_on (is_reevaluating w b (sym (two_field w from to m hf ht (λ z. reevaluates z.walk) refl refl b) ∙ reevaluating (moved_with w from to (Some m)) b r));
      });
}

-- no mark names the CPU: whatever becomes of it, marks fit
leave_marks : (w : World) (c : ℕ) (y : CpuRecord) → c < length w.cpus → PlacedAndMarked w → ((d : ℕ) → (cpu_of w d).mark ≡ Some c → ⊥) → y.online ≡ (cpu_of w c).online → y.mark ≡ (cpu_of w c).mark → PlacedAndMarked (own w c y)
leave_marks w c y hc f nobody on mark = record {
  some_placed = stays_online w 0 (group_of w 0) c y false hc f on f.some_placed;
  markers = λ d b is.
      (let was : (cpu_of w d).mark ≡ Some b = sym (mark_same d) ∙ is in
      let q = f.markers d b was in
      let ne : b ≢ c = λ same. nobody d (was ∙ ap Some same) in
      record {
        placed = q.placed;
        online = ap (λ (z : CpuRecord). z.online) (cpu_else w 0 (group_of w 0) c y false b ne) ∙ q.online;
        inside = ap (λ (z : CpuRecord). z.inside) (cpu_else w 0 (group_of w 0) c y false b ne) ∙ q.inside;
        goes_on = λ r. q.goes_on (is_reevaluating w b (sym (ap (λ (z : CpuRecord). reevaluates z.walk) (cpu_else w 0 (group_of w 0) c y false b ne)) ∙ reevaluating (own w c y) b r));
      });
}
  where
    mark_same : (d : ℕ) → (cpu_of (own w c y) d).mark ≡ (cpu_of w d).mark
    mark_same d = elim (cases_eq d c) [
      | inl same ↦ subst (λ n. (cpu_of (own w c y) n).mark ≡ (cpu_of w n).mark) (sym same) (ap (λ (z : CpuRecord). z.mark) (cpu_same w 0 (group_of w 0) c y false hc) ∙ mark)
      | inr ne ↦ ap (λ (z : CpuRecord). z.mark) (cpu_else w 0 (group_of w 0) c y false d ne)
    ]

-- the marker of a Take fits
taker_fits : (w : World) (c b : ℕ) → c < length w.cpus → PlacedAndMarked w → is_placed_in w.tree b ≡ true → (cpu_of w b).online ≡ true → (cpu_of w b).inside ≡ true → (IsReevaluating w b → ⊥) → IsMarker (own w c (record (cpu_of w c) { mark = Some b })) b
taker_fits w c b hc f placed on in_it goes = record {
  placed = placed;
  online = field (λ z. z.online) refl ∙ on;
  inside = field (λ z. z.inside) refl ∙ in_it;
  goes_on = λ r. goes (is_reevaluating w b (sym (field (λ z. reevaluates z.walk) refl) ∙ reevaluating (own w c (record (cpu_of w c) { mark = Some b })) b r));
}
  where
    field : {X : Type 0} (fn : CpuRecord → X) → fn (record (cpu_of w c) { mark = Some b }) ≡ fn (cpu_of w c) → fn (cpu_of (own w c (record (cpu_of w c) { mark = Some b })) b) ≡ fn (cpu_of w b)
    field fn e = own_field w c (record (cpu_of w c) { mark = Some b }) hc fn e b

no_reeval : (q : Bool) → q ≡ false → q ≡ true → ⊥
no_reeval q off on = true≢false (sym on ∙ off)

off_or : (q : Bool) → (q ≡ true) ⊎ (q ≡ false)
off_or true = inl refl
off_or false = inr refl

pub markers_stay_fit : MarkersStayFit
markers_stay_fit w (steps.Clock now) p f e = record {
  some_placed = record { cpu = f.some_placed.cpu; placed = f.some_placed.placed; online = f.some_placed.online };
  markers = λ c b is. (let q = f.markers c b is in record { placed = q.placed; online = q.online; inside = q.inside; goes_on = λ r. q.goes_on (record { made = r.made; walk = r.walk; kind = r.kind }) });
}
markers_stay_fit w (steps.Enter cpu) p f e =
    let y : CpuRecord = record (cpu_of w cpu.0) { inside = true } in
    general w 0 (group_of w 0) cpu.0 y false e.is_free.in_range f (stays_online w 0 (group_of w 0) cpu.0 y false e.is_free.in_range f refl) (λ m. (m.online, refl, ap reevaluates e.is_free.free)) (λ b q. inl q)
markers_stay_fit w (steps.Leave cpu) p f e =
    let y : CpuRecord = record (cpu_of w cpu.0) { inside = false } in
    leave_marks w cpu.0 y e.is_free.in_range f e.marks_nobody refl refl
markers_stay_fit w (steps.Move from to timer) p f e = move_marks w from.0 to.0 (first_moved (cpu_of w from.0).bases) e.from_free.in_range e.to_free.in_range f
markers_stay_fit w (steps.Walk cpu) p f e = subst (λ m. PlacedAndMarked (walk_made w cpu.0 m)) (sym e.walk) (by_stage w cpu.0 e.made e.in_range f e.walk e.made.stage e.may_go_on)
markers_stay_fit w (steps.HandOn cpu to) p f e = on_walk w cpu.0 e.made e.in_range f e.walk 0 (group_of w 0) None false (λ q. absurd (true≢false (sym q)))
markers_stay_fit w (steps.Arm cpu timer class expires job arg line) p f e = steady w 0 (group_of w 0) cpu.0 _ false e.is_free.in_range f refl refl refl (λ q. q)
markers_stay_fit w (steps.Cancel cpu timer by line) p f e = steady w 0 (group_of w 0) cpu.0 _ false e.0.is_free.in_range f refl refl refl (λ q. q)
markers_stay_fit w (steps.Hand cpu timer runner) p f e = steady w 0 (group_of w 0) cpu.0 _ false e.is_free.in_range f refl refl refl (λ q. q)
markers_stay_fit w (steps.Ticked cpu class runner) p f e = steady w 0 (group_of w 0) cpu.0 _ false e.is_free.in_range f refl refl refl (λ q. q)
markers_stay_fit w (steps.Idle cpu) p f e = steady w 0 (group_of w 0) cpu.0 _ false e.is_free.in_range f refl refl refl (λ q. absurd (no_reeval _ (begun_reeval _ kinds.Deactivate _ _ _ refl) q))
markers_stay_fit w (steps.Wake cpu) p f e = steady w 0 (group_of w 0) cpu.0 _ false e.is_free.in_range f refl refl refl (λ q. absurd (no_reeval _ (begun_reeval _ kinds.Activate _ _ _ refl) q))
markers_stay_fit w (steps.Carry cpu) p f e = steady w 0 (group_of w 0) cpu.0 _ false e.is_free.in_range f refl refl refl (λ q. absurd (no_reeval _ (begun_reeval _ (kinds.Remote _) _ _ _ refl) q))
markers_stay_fit w (steps.Offline cpu) p f e = general w 0 (group_of w 0) cpu.0 _ false e.is_free.in_range f
    (λ s. elim e.missed [
      | inl isolated ↦ (elim (cases_eq s.cpu cpu.0) [
        | inl same ↦ absurd (true≢false (sym (subst (λ n. is_placed_in w.tree n ≡ true) same s.placed) ∙ isolated))
        | inr ne ↦ else_online w 0 (group_of w 0) cpu.0 _ false e.is_free.in_range f s.cpu ne s.placed s.online
      ])
      | inr other ↦ else_online w 0 (group_of w 0) cpu.0 _ false e.is_free.in_range f other.0 other.1 other.2 other.3
    ])
    (λ m. absurd (true≢false (sym m.inside ∙ e.outside))) (λ b q. inl q)
markers_stay_fit w (steps.Online cpu) p f e = general w 0 (group_of w 0) cpu.0 _ false e.is_free.in_range f
    (λ s. else_online w 0 (group_of w 0) cpu.0 _ false e.is_free.in_range f s.cpu (λ same. true≢false (sym s.online ∙ subst (λ n. (cpu_of w n).online ≡ false) (sym same) e.offline)) s.placed s.online)
    (λ m. absurd (true≢false (sym m.online ∙ e.offline))) (λ b q. inl q)
markers_stay_fit w (steps.Reeval cpu) p f e = leave_marks w cpu.0 _ e.is_free.in_range f e.marks_nobody refl refl
markers_stay_fit w (steps.Take cpu by) p f e =
    let y : CpuRecord = record (cpu_of w cpu.0) { mark = Some by.0 } in
    general w 0 (group_of w 0) cpu.0 y false e.is_free.in_range f (stays_online w 0 (group_of w 0) cpu.0 y false e.is_free.in_range f refl) (λ m. (m.online, m.inside, ap reevaluates e.is_free.free))
    (λ b q. inr (subst (IsMarker (own w cpu.0 y)) (same_Some _ _ q) (taker_fits w cpu.0 by.0 e.is_free.in_range f e.by_placed (by_online e.by_inside) e.by_inside e.by_goes_on)))
  where
    by_online : (cpu_of w by.0).inside ≡ true → (cpu_of w by.0).online ≡ true
    by_online in_it = elim (off_or (cpu_of w by.0).online) [ inl on ↦ on | inr off ↦ absurd (true≢false (sym in_it ∙ (p.at_rest by.0 off).outside)) ]
markers_stay_fit w (steps.Release cpu) p f e =
    let y : CpuRecord = record (cpu_of w cpu.0) { mark = None } in
    general w 0 (group_of w 0) cpu.0 y false e.is_free.in_range f (stays_online w 0 (group_of w 0) cpu.0 y false e.is_free.in_range f refl) (λ m. (m.online, m.inside, ap reevaluates e.is_free.free)) (λ b q. absurd (none-some b q))
