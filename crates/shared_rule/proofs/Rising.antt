-- for crates above: the exchange of a group's state by an activation
use Rattle.std.proofs.Common.{◌≡◌, ◌↔◌, ℕ, suc, ◌+◌, ◌<◌, ◌≤◌, eqb, eq-eqb, ne_eqb, cond, Bool}
use Rattle.std.proofs.Common.{true, false, true≢false, List, [], ◌∷◌, ◌++◌, length, Option}
use Rattle.std.proofs.Common.{Some, None}
use Rattle.std.proofs.Common.{refl, sym, ap, ◌∙◌, subst, inl, inr, arith}
use Rattle.std.specs.Prelude.{option_map, Contains, is_none, is_some, not, unwrap_or}
use Rattle.std.proofs.lemmas.Bool.{cases_eq}
use Rattle.std.proofs.lemmas.List.{get_or-set_same, get_or-set_other}
use Rattle.std.proofs.lemmas.Option.{none-some, same_Some}
use prog.Atomic.{either}
use Rattle.event_queue.specs.EventMap.{EventMap, event_at}
use Rattle.group_word.specs.State.{state_word, IsStateOf, activated_state}
use Rattle.group_word.specs.declared.state.GroupState.{GroupState}
use Rattle.tree_plan.specs.Paths.{group_at_of}
use Rattle.walk_rules.specs.declared.walk.Walk.{Walk}
use Rattle.walk_rules.specs.declared.walk.WalkKind.TheVariants as kinds
use Rattle.walk_rules.specs.declared.walk.Stage.TheVariants as stages
use Rattle.walk_rules.specs.Hierarchy.{side, at_top}
use Rattle.walk_rules.specs.Standing.{FitsStage}
use Rattle.walk_rules.specs.Scene.{Group, no_group}
use Rattle.walk_rules.specs.Stages.{forget, up_next, joined_by}
use Rattle.core_world.specs.declared.step.Step.TheVariants as steps
use Rattle.core_world.specs.Enabled.{MayGoOn}
use Rattle.core_world.specs.Steps.{here, walk_made, walked, with_walk}
use Rattle.core_world.specs.World.{World, CpuRecord, cpu_of, group_of, moved, is_reading}
use Rattle.core_world.proofs.Moves.{cpu_same, cpu_else}
use Rattle.shared_rule.specs.declared.parts.BoxView.{BoxView}
use Rattle.shared_rule.specs.declared.parts.PassView.{PassView}
use Rattle.shared_rule.specs.CoreLaws.{CoreLaws}
use Rattle.shared_words.specs.declared.layout.SharedWord.{SharedWord}
use Rattle.shared_words.specs.declared.layout.SharedWord.TheVariants.{State, Lock, Slot, Cpu, Timer}
use Rattle.shared_words.specs.Layout.{index_of}
use Rattle.shared_rule.specs.declared.parts.Looked.{Looked}
use Rattle.shared_words.specs.Exchanges.{HasRoom, IsJoinOf, shows_migrator}
use Rattle.shared_words.proofs.Back.{migrator_shown}
use Rattle.shared_rule.specs.Whole.{state_at, Whole, word_at, box_of, quiet, group_word}
use Rattle.shared_rule.specs.Whole.{group_state, layout_of, leaf_of, leaf_in}
use Rattle.shared_rule.specs.Shows.{CoreStep}
use Rattle.shared_rule.specs.Shows.{IsShown, reevaluates, is_reeval, owes, raised, set_at}
use Rattle.shared_rule.specs.Rule.{Each, Me, seat_of, Goes}
use Rattle.shared_rule.specs.Plays.{on_box, up_box, up_walk, bound_walk, trying}
use Rattle.shared_rule.specs.Laws.{LookStays, RiseStays, none_made, walk_of, walk_always, where_made}
use Rattle.shared_rule.proofs.Owing.{up_owes}
use Rattle.shared_rule.proofs.Moving.{field_else, set_else, set_here}
use Rattle.shared_rule.proofs.Fits.{good_word, good_state, seq_low, shown_walk}
use Rattle.shared_rule.proofs.Made.{made}
use Rattle.shared_rule.proofs.Going.{allows}
use Rattle.shared_rule.proofs.Reaching.{under}

pub as_they_were : (o : World) (s : Whole) (ps : List PassView)
    → Each (λ x. (x.cpu < length o.cpus) × (x ≡ s.pass x.cpu)) ps → Each (λ x. x ≡ s.pass x.cpu) ps
as_they_were o s [] h = tt
as_they_were o s (x ∷ xs) h = (h.0.1, as_they_were o s xs h.1)

-- a step that changes nothing of the core
pub still : (o : World) (s : Whole) (c : ℕ) (ps : List PassView) (p : SharedWord) (f : ℕ → ℕ)
    (then : ℕ → Me → Type 0) → IsShown o s → Each (λ x. (x.cpu < length o.cpus)
    × (x ≡ s.pass x.cpu)) ps
    → f (word_at s p) ≡ word_at s p → then (word_at s p) (seat_of (box_of o s c ∷ []) ps)
    → Goes o s (box_of o s c) ps p f none_made then
still o s c ps p f then h known same told = record {
  next = s;
  box = box_of o s c;
  passes = ps;
  shown = h;
  makes = refl;
  word = sym same;
  words = λ q low ne. refl;
  own = refl;
  boxes = λ d ne. refl;
  same = refl;
  brought = as_they_were o s ps known;
  others = λ d ne. refl;
  told = told;
}

-- the whole in which the walk of c has found out this
abbrev pub remembering : Whole → (c : ℕ) → Looked → Whole
remembering s c looked = record s { looked = set_at c looked s.looked }

-- what a walk has found out is no part of any word
pub words_remain : (s : Whole) (c : ℕ) (looked : Looked) (m : SharedWord)
    → word_at (remembering s c looked) m ≡ word_at s m
words_remain s c looked (State g) = refl
words_remain s c looked (Lock g) = refl
words_remain s c looked (Slot g k) = refl
words_remain s c looked (Cpu d) = refl
words_remain s c looked (Timer t) = refl

-- a step by which the walk of c finds something out, and nothing of the core changes
module _ (o : World) (s : Whole) (h : IsShown o s) (c : ℕ) (looked : Looked) where
  abbrev next : Whole
  next = remembering s c looked

  remembers : IsShown o next
  remembers = record {
    opening = h.opening;
    fits = h.fits;
    reached = h.reached;
    same = h.same;
    clock = h.clock;
    online = h.online;
    staying = h.staying;
    reads = λ d. let r = h.reads d in record { fresh = r.fresh; before = r.before; good = r.good };
    bound = h.bound;
    few = h.few;
    opened = h.opened;
    passes = h.passes;
    flags = h.flags;
    marked = h.marked;
    named = h.named;
    queued = h.queued;
    replayed = h.replayed;
    journals = h.journals;
    parted = h.parted;
    noted = h.noted;
    seen = h.seen;
    left = h.left;
  }

  pub notes : (ps : List PassView) (p : SharedWord) (f : ℕ → ℕ) (then : ℕ → Me → Type 0)
      → Each (λ x. (x.cpu < length o.cpus) × (x ≡ s.pass x.cpu)) ps
      → f (word_at s p) ≡ word_at s p
      → then (word_at s p) (seat_of (record (box_of o s c) { looked = looked } ∷ []) ps)
      → Goes o s (box_of o s c) ps p f none_made then
  notes ps p f then known same told = record {
    next = next;
    box = record (box_of o s c) { looked = looked };
    passes = ps;
    shown = remembers;
    makes = refl;
    word = words_remain s c looked p ∙ sym same;
    words = λ q low ne. words_remain s c looked q;
    own = λ i. record (box_of o s c) { looked = sym (set_here c looked s.looked) i };
    boxes = λ d ne i. record (box_of o s d) { looked = set_else c looked s.looked d ne i };
    same = refl;
    brought = as_they_were o s ps known;
    others = λ d ne. refl;
    told = told;
  }

-- the place of a group's word
abbrev place_of_state : World → ℕ → ℕ
place_of_state o g = index_of (layout_of o) (state_at g)

-- what the walk of c has found out, with the word of a group besides
abbrev trying_too : World → Whole → (c g found : ℕ) → Looked
trying_too o s c g found = record (s.looked c) {
  tried = (s.looked c).tried ++ record { word = place_of_state o g; found = found } ∷ [];
}

-- a look at the word of a group
pub look : (law : CoreLaws) (o : World) → LookStays o
look law o slots id g b ps low =
    allows law o slots id b ps (state_at g) (λ n. n) none_made
    (λ n v. (v ≡ on_box (trying (place_of_state o g) n) (seat_of (b ∷ []) ps)) × HasRoom n)
    low
    (λ s h hc is known fits.
    subst (λ (z : BoxView). Goes o s z ps (state_at g) (λ n. n) none_made
    (λ n v. (v ≡ on_box (trying (place_of_state o g) n) (seat_of (z ∷ []) ps))
    × HasRoom n)) (sym is)
    (notes o s h b.cpu (trying_too o s b.cpu g (group_word s g)) ps (state_at g) _ _ known refl
    (refl, good_word law o s h g)))

-- a word says whether its state has no migrator
not_some : (m : Option ℕ) → not (is_some m) ≡ is_none m
not_some None = refl
not_some (Some k) = refl

pub none_in : (word : ℕ) (x : GroupState) → IsStateOf word x
    → not (shows_migrator word) ≡ is_none x.migrator
none_in word x is = ap not (migrator_shown word x is) ∙ not_some x.migrator

forget_up : (top more : Bool) (j : Walk) → option_map forget
    (up_next top more j) ≡ up_next top more (forget j)
forget_up true more j = refl
forget_up false more j = refl

up_is : (top more : Bool) (j k : Walk) → up_next top more j ≡ Some k → (k.kind ≡ j.kind)
    × (is_reading k.stage ≡ false)
up_is true more j k e = absurd (none-some k e)
up_is false more j k e = let s = same_Some _ _ e in
    (ap (λ (z : Walk). z.kind) (sym s), ap (λ (z : Walk). is_reading z.stage) (sym s))

up_reeval : (top more : Bool) (j : Walk) → j.kind ≡ kinds.Activate
    → reevaluates (up_next top more j) ≡ reevaluates (Some j)
up_reeval true more j e = sym (ap is_reeval e)
up_reeval false more j e = refl

rise_hit : (law : CoreLaws) (o : World) (s : Whole) (c gg : ℕ) (j : Walk) (ps : List PassView)
    (old new : ℕ) → IsShown o s → c < length o.cpus
    → Each (λ z. (z.cpu < length o.cpus) × (z ≡ s.pass z.cpu)) ps
    → (cpu_of s.world c).walk ≡ Some j → j.stage ≡ stages.Up
    → group_at_of o.tree c j.level ≡ Some gg → IsJoinOf old (side o.tree c j.level) new
    → group_word s gg ≡ old
    → Goes o s (box_of o s c) ps (state_at gg) (λ n. either (eqb n old) new n) (walk_always c)
    (λ n w. w
    ≡ on_box (up_box (eqb n old) old (place_of_state o gg) n) (seat_of (box_of o s c ∷ []) ps))
rise_hit law o s c gg j ps old new h hc known at is_up path_o join e =
    let w = s.world in
    let y0 = cpu_of w c in
    let t = h.same.tree in
    let l = j.level in
    let path : group_at_of w.tree c l ≡ Some gg = ap (λ z. group_at_of z c l) t ∙ path_o in
    let at_g : here w c j ≡ gg = ap (λ m. unwrap_or m 0) path in
    let hc' : c < length w.cpus = omega (arith, hc, h.same.cpus) in
    let pl = law.paths w.tree h.fits.planned in
    let hg : gg < length w.groups = omega (
      arith,
      pl.group_within c l gg path,
      h.fits.lawful.sized.groups,
    ) in
    let kid = side w.tree c l in
    let x : Group = joined_by (group_of w gg) kid in
    let top = at_top w.tree c l in
    let more = is_none (group_of w gg).migrator in
    let y : CpuRecord = with_walk y0 (up_next top more j) in
    let stand = (law.places w h.fits.lawful).in_tree c j at
    ((law.places w h.fits.lawful).stages_of c j at (λ z. up_not_finish (sym is_up ∙ z))) in
    let seq_room = seq_low law o s h gg in
    let spelled : IsStateOf old (group_state (group_of w gg) (s.seq gg)) = subst
    (λ n. IsStateOf n (group_state (group_of w gg) (s.seq gg))) e (good_state law o s h gg) in
    let own_g : group_of
    (moved w gg x c y true) gg ≡ x = get_or-set_same w.groups gg x no_group hg in
    let kind : j.kind ≡ kinds.Activate = subst (FitsStage w.tree c j.kind l) is_up stand.fits in
    let ev : (m : ℕ) → (group_of (moved w gg x c y true) m).events ≡
    (group_of w m).events = λ m. elim (cases_eq m gg) [
      | inl z ↦ ap (λ n. (group_of (moved w gg x c y true) n).events) z
          ∙ (ap (λ (v : Group). v.events) own_g ∙ ap (λ n. (group_of w n).events) (sym z))
      | inr ne ↦ ap (λ (v : Group). v.events) (get_or-set_other w.groups gg m x no_group ne)
    ] in
    let mark : (d : ℕ) → (cpu_of (moved w gg x c y true) d).mark ≡ (cpu_of w d).mark = λ d. elim
    (cases_eq d c) [
      | inl z ↦ ap (λ n. (cpu_of (moved w gg x c y true) n).mark) z
          ∙ (ap (λ (v : CpuRecord). v.mark) (cpu_same w gg x c y true hc')
          ∙ ap (λ n. (cpu_of w n).mark) (sym z))
      | inr ne ↦ ap (λ (v : CpuRecord). v.mark) (cpu_else w gg x c y true d ne)
          ∙ field_else (λ v. v.mark) (λ v m. refl) w.tree true gg d (cpu_of w d)
    ] in
    let none_there : not (shows_migrator old) ≡ more = none_in old _ spelled in
    let untried : Looked = record (s.looked c) { tried = [] } in
    made law o s h c gg x y true (s.read c) s.stray untried s.pass ps ps (state_at gg) _ _
    (record {
      step = steps.Walk (record { 0 = c });
      enabled = record {
        in_range = hc';
        made = j;
        walk = at;
        may_go_on = subst (MayGoOn w c j)
            (sym is_up) tt;
      };
      is = ap (walk_made w c) at ∙ (ap (walked w c j) is_up
          ∙ (λ i. moved w (at_g i) (joined_by (group_of w (at_g i)) kid) c
          (with_walk y0 (up_next top (is_none (group_of w (at_g i)).migrator) j)) true));
      plain = record { time = refl; queues = refl; journals = refl; online = refl };
      in_range = hc;
      group = inl (omega (arith, hg, h.same.groups));
      kept = λ z. absurd (true≢false z);
      staying = λ k z off. h.staying c j at (sym (up_is top more j k z).0 ∙ off);
      reads = record {
        fresh = λ k m z rd here. absurd (true≢false (sym rd ∙ (up_is top more j k z).1));
        before = λ k m z rd here. absurd (true≢false (sym rd ∙ (up_is top more j k z).1));
        good = λ k z rd. absurd (true≢false (sym rd ∙ (up_is top more j k z).1));
      };
      owed = λ m.
          let a = subst (λ z. raised true gg s.seq m + owes z m c
          (up_next top more j) ≤ s.seq m + owes z m c (Some j)) t
          (up_owes w.tree gg c j s.seq is_up kind path (pl.level c l gg path) top more m) in
          let b : owes o.tree m c y0.walk ≡ owes o.tree m c (Some j) = ap (owes o.tree m c) at in
          omega (arith, a, b);
      few = h.few;
      opened = h.opened;
      passes = h.passes;
      flags = let f = h.flags c in record {
        idle = f.idle;
        inside = f.inside;
        wakeup = f.wakeup;
        reeval = f.reeval ∙ (ap reevaluates at ∙ sym (up_reeval top more j kind));
      };
      flags_else = λ d ne. h.flags d;
      marked = λ d m. subst (λ z. (z ≡ Some m) ↔ Contains (s.pass m).marks d) (sym (mark d))
          (h.marked d m);
      journal = λ d. refl;
      receipts = λ d. refl;
      did = h.seen;
      leaf = leaf_of w c;
      leaf_is = sym (leaf_same w gg x c y c ev);
      leaves = λ d ne. leaf_same w gg x c y d ev;
      word = ap (λ z. state_word (group_state z (raised true gg s.seq gg))) own_g
          ∙ (ap (λ z. state_word (group_state x z))
          (ap (λ b. cond b (suc (s.seq gg)) (s.seq gg)) (eq-eqb gg gg refl)
          ∙ (let z : suc (s.seq gg) ≡ s.seq gg + 1 = omega arith in z))
          ∙ ((λ i. state_word (activated_state (group_state (group_of w gg) (s.seq gg))
          (side (t i) c l)))
          ∙ (sym (join (group_state (group_of w gg) (s.seq gg)) spelled)
          ∙ sym (ap (λ b. either b new (group_word s gg)) (eq-eqb _ _ e)))));
      state = λ ne. absurd (ne refl);
      lock = λ ne. refl;
      slots = λ k low ne. refl;
      strays = λ m k ne. refl;
      cpu = λ ne. refl;
      same = refl;
      brought = as_they_were o s ps known;
      others = λ d ne. refl;
      told = subst (λ b. ◌≡◌ {A = Me}
          (seat_of (record (box_of o s c) { own = quiet y; looked = untried } ∷ []) ps)
          (on_box (up_box b old (place_of_state o gg) (group_word s gg))
          (seat_of (box_of o s c ∷ []) ps))) (sym (eq-eqb _ _ e))
          ((λ i. (seat_of (record (box_of o s c) {
            own = record y0 { walk = forget_up top more j i };
            looked = untried;
          } ∷ []) ps))
          ∙ ((λ i. (seat_of (record (box_of o s c) {
            own = record y0 {
              walk = up_next
                  (at_top (t i) c l) (sym none_there i) (forget j);
            };
            looked = untried;
          } ∷ []) ps))
          ∙ (λ i. (seat_of (record (box_of o s c) {
            own = record y0 {
              walk = bound_walk
                  (up_walk old (box_of o s c)) (option_map forget (sym at i));
            };
            looked = untried;
          } ∷ []) ps))));
    })
  where
    up_not_finish : stages.Up ≡ stages.Finish → ⊥
    up_not_finish z = cc

    leaf_in_same : (w : World) (g : ℕ) (x : Group) (c : ℕ) (y : CpuRecord) (d : ℕ) (m : Option ℕ)
        → ((n : ℕ) → (group_of (moved w g x c y true) n).events ≡ (group_of w n).events)
        → leaf_in (moved w g x c y true) d m ≡ leaf_in w d m
    leaf_in_same w g x c y d None ev = refl
    leaf_in_same w g x c y d (Some n) ev = ap (λ (z : EventMap). event_at z (side w.tree d 0))
        (ev n)

    leaf_same : (w : World) (g : ℕ) (x : Group) (c : ℕ) (y : CpuRecord) (d : ℕ)
        → ((n : ℕ) → (group_of (moved w g x c y true) n).events ≡ (group_of w n).events)
        → leaf_of (moved w g x c y true) d ≡ leaf_of w d
    leaf_same w g x c y d ev = leaf_in_same w g x c y d (group_at_of w.tree d 0) ev

pub rise : (law : CoreLaws) (o : World) → RiseStays o
rise law o slots id g b k ps old new may =
    let f : ℕ → ℕ = λ n. either (eqb n old) new n in
    let by : ℕ → Option CoreStep = λ n. where_made (eqb n old) (walk_of b.cpu) in
    allows law o slots id b ps (state_at g) f by
    (λ n v. v ≡ on_box (up_box (eqb n old) old (place_of_state o g) n) (seat_of (b ∷ []) ps))
    may.group
    (λ s h hc is known fits.
    let then : ℕ → Me → Type 0
    = λ n v. v
    ≡ on_box (up_box (eqb n old) old (place_of_state o g) n) (seat_of (box_of o s b.cpu ∷ []) ps) in
    subst (λ (z : BoxView). Goes o s z ps (state_at g) f by
    (λ n v. v ≡ on_box (up_box (eqb n old) old (place_of_state o g) n) (seat_of (z ∷ []) ps)))
    (sym is)
    (elim (cases_eq (group_word s g) old) [
      | inl e ↦
          let j = shown_walk _ k (ap (λ (z : BoxView). z.own.walk) (sym is) ∙ may.walk) in
          let lv : k.level ≡ j.0.level = ap (λ (z : Walk). z.level) (sym j.2) in
          under o s (box_of o s b.cpu) ps (state_at g) f (walk_always b.cpu) by then
          (ap (λ z. where_made z (walk_of b.cpu)) (eq-eqb _ _ e))
          (rise_hit law o s b.cpu g j.0 ps old new h hc known j.1
          (ap (λ (z : Walk). z.stage) j.2 ∙ may.stage)
          (ap (λ n. group_at_of o.tree b.cpu n) (sym lv) ∙ may.path)
          (subst (λ n. IsJoinOf old (side o.tree b.cpu n) new) lv may.word) e)
      | inr ne ↦
          under o s (box_of o s b.cpu) ps (state_at g) f none_made by then
          (ap (λ z. where_made z (walk_of b.cpu)) (ne_eqb _ _ ne))
          (notes o s h b.cpu (trying_too o s b.cpu g (group_word s g)) ps (state_at g) f then known
          (ap (λ z. either z new (group_word s g)) (ne_eqb _ _ ne))
          (subst (λ z. ◌≡◌ {A = Me}
          (seat_of (trying (place_of_state o g) (group_word s g) (box_of o s b.cpu) ∷ []) ps)
          (on_box (up_box z old (place_of_state o g) (group_word s g))
          (seat_of (box_of o s b.cpu ∷ []) ps)))
          (sym (ne_eqb _ _ ne)) refl))
    ]))
