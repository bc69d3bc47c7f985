-- for crates above: a load by the seat of a pass, told as a step of the whole
use Rattle.std.proofs.Common.{◌≡◌, ◌≢◌, ⊎_elim, ℕ, [], ◌∷◌, ◌++◌}
use Rattle.std.proofs.Common.{length, Some, refl, sym, ap, ◌∙◌, subst}
use Rattle.std.specs.Prelude.{slice_get, slice_index}
use mathlib.Core.Option.{some}
use lib.ListN.{get_elem?}
use Rattle.atomic_table.specs.Table.{Allows, keeps}
use Rattle.atomic_table.proofs.Lists.{at_set}
use Rattle.core_world.specs.World.{World}
use Rattle.shared_words.specs.declared.layout.SharedWord.{SharedWord}
use Rattle.shared_words.specs.Exchanges.{HasRoom}
use Rattle.shared_words.specs.Layout.{IsWordOf, index_of}
use Rattle.shared_rule.specs.declared.parts.Deed.TheVariants as deeds
use Rattle.shared_rule.specs.declared.parts.Did.{Did}
use Rattle.shared_rule.specs.declared.parts.PassView.{PassView}
use Rattle.shared_rule.specs.declared.parts.Said.{Said}
use Rattle.shared_rule.specs.declared.parts.View.{View}
use Rattle.shared_rule.specs.CoreLaws.{CoreLaws}
use Rattle.shared_rule.specs.Whole.{Whole, layout_of, state_at, timer_at, word_at}
use Rattle.shared_rule.specs.Shows.{DidRight, IsShown}
use Rattle.shared_rule.specs.Rule.{Holds, IsViewOf, Me, boxes_in, box_cpu, pass_cpu, passes_in}
use Rattle.shared_rule.specs.Rule.{seat_of, seen}
use Rattle.shared_rule.specs.Plays.{NamesCpu, on_pass, seen_pass}
use Rattle.shared_rule.specs.Laws.{LoadStays, SeeStateStays, SeeStays, SeeTimerStays}
use Rattle.shared_rule.proofs.Moving.{set_else, set_here}
use Rattle.shared_rule.proofs.Fits.{good_word}
use Rattle.shared_rule.proofs.Fronts.{get_snoc}
use Rattle.shared_rule.proofs.Going.{other_boxes, other_passes, same_times, spells, stands_on}
use Rattle.shared_rule.proofs.Passing.{repassed, with_pass, word_stays}
use Rattle.shared_rule.proofs.Seeing.{names_cpu, saw_right}

-- a pass that has done one thing more
abbrev pub learned : Did → PassView → PassView
learned x p = record p { did = p.did ++ x ∷ [] }

module _ (o : World) (s : Whole) (h : IsShown o s) (c : ℕ) (x : Did)
    (right : DidRight o s.world (s.pass c).receipts x) where
  abbrev mine : PassView
  mine = learned x (s.pass c)

  abbrev next : Whole
  next = with_pass s c mine

  -- what the pass did is right, the new deed with the others
  all_right : (i : ℕ) (z : Did) → slice_get mine.did i ≡ Some z
      → DidRight o s.world (s.pass c).receipts z
  all_right i z at =
      ⊎_elim (λ old. h.seen c i z old)
      (λ (t : (i ≡ length (s.pass c).did) × (x ≡ z)).
      subst (DidRight o s.world (s.pass c).receipts) t.1 right)
      (get_snoc (s.pass c).did x i z at)

  pub learns : IsShown o next
  learns =
      repassed o s h c mine
      (record {
        opening = refl;
        cpu = refl;
        walks = refl;
        receipts = refl;
        idle = refl;
        inside = refl;
        reeval = refl;
        wakeup = refl;
        marks = refl;
      }) (h.journals c) (h.parted c) all_right

-- what a load by the seat of pass q makes of the whole
pub record Learns (o : World) (s : Whole) (q : PassView) (m : SharedWord)
    (then : ℕ → Me → Type 0) : Type 0 where
  pub did : Did
  pub right : DidRight o s.world (s.pass q.cpu).receipts did
  pub told : then (word_at s m) (seat_of [] (learned did q ∷ []))

-- the seat of pass q may load a word, where it learns right of each whole that it may stand for
allows_load : (o : World) (slots id : ℕ) (q : PassView) (m : SharedWord)
    (then : ℕ → Me → Type 0) → IsWordOf (layout_of o) m
    → ((s : Whole) → IsShown o s → q ≡ s.pass q.cpu → Learns o s q m then)
    → Allows {S = Said} {V = View} (Holds o) slots id (seat_of [] (q ∷ []))
    (index_of (layout_of o) m) (λ n. n) then
allows_load o slots id q m then within may t h homes at fits =
    let s = h.0 in
    let boxer = h.1 in
    let passer = h.2 in
    let mine = h.5 id (seen [] (q ∷ [])) at in
    let c = q.cpu in
    let is = h.4.each m within in
    let known : q ≡ s.pass c = mine.passes.0.is in
    let l = may s h.3 known in
    let p = learned l.did q in
    let v : View = seen [] (p ∷ []) in
    let next : Whole = with_pass s c (learned l.did (s.pass c)) in
    let own : p ≡ next.pass c
    = ap (learned l.did) known ∙ sym (set_here c (learned l.did (s.pass c)) s.pass) in (
      v,
      keeps,
      tt,
      (
        next,
        boxer,
        passer,
        learns o s h.3 c l.did l.right,
        spells (layout_of o) t.words s next m (slice_index t.words (index_of (layout_of o) m)) h.4
            within (word_stays s c (learned l.did (s.pass c)) m ∙ sym is)
            (λ z low ne. word_stays s c (learned l.did (s.pass c)) z),
        λ j u there. ⊎_elim
            (λ (e : (j ≡ id) × (v ≡ u)).
            subst (λ (y : ℕ × View). IsViewOf o next boxer passer y.0 y.1)
            (λ i. (sym e.0 i, e.1 i))
            (record {
              boxes = tt;
              passes = (
                record { low = mine.passes.0.low; owned = mine.passes.0.owned; is = own },
                tt,
              );
            }))
            (λ (e : (j ≢ id) × (get_elem? t.views j ≡ some u)).
            let was = h.5 j u e.1 in
            record {
              boxes = other_boxes o s next boxer j u.boxes (λ d is_own. refl) was.boxes;
              passes = other_passes o s next passer j u.passes
                  (λ d is_own. set_else c _ s.pass d
                  (λ z. e.0 (sym is_own ∙ (ap passer z ∙ mine.passes.0.owned)))) was.passes;
            })
            (at_set t.views id j v u there),
        λ d low. (
          stands_on box_cpu boxes_in t.views boxer id d v (seen [] (q ∷ [])) at refl (h.6 d low).0,
          stands_on pass_cpu passes_in t.views passer id d v (seen [] (q ∷ [])) at
              (same_times pass_cpu d (p ∷ []) (q ∷ []) refl) (h.6 d low).1,
        ),
      ),
      subst (λ n. then n (v, [])) (sym is) l.told,
    )

-- it makes no step of the core, and the table allows it
pub loads : (o : World) (slots id : ℕ) (q : PassView) (m : SharedWord)
    (then : ℕ → Me → Type 0) → IsWordOf (layout_of o) m
    → ((s : Whole) → IsShown o s → q ≡ s.pass q.cpu → Learns o s q m then)
    → LoadStays o slots id q m then
loads o slots id q m then within may = record {
  goes = λ s h known.
      let c = q.cpu in
      let l = may s h known in
      let mine = learned l.did (s.pass c) in
      record {
        next = with_pass s c mine;
        pass = learned l.did q;
        shown = learns o s h c l.did l.right;
        makes = refl;
        words = word_stays s c mine;
        boxes = λ d. refl;
        own = ap (learned l.did) known ∙ sym (set_here c mine s.pass);
        others = λ d ne. set_else c mine s.pass d ne;
        told = l.told;
      };
  allowed = allows_load o slots id q m then within may;
}

-- the deed of a load by pass q is right, and what a load finds is told
pub looked : (law : CoreLaws) (o : World) (s : Whole) (h : IsShown o s) (q : PassView)
    (m : SharedWord)
    → IsWordOf (layout_of o) m → q ≡ s.pass q.cpu
    → DidRight o s.world (s.pass q.cpu).receipts (record {
      held = length q.receipts;
      deed = deeds.Saw (index_of (layout_of o) m) (word_at s m);
    })
looked law o s h q m within known =
    subst
    (λ (z : PassView). DidRight o s.world (s.pass q.cpu).receipts (record {
      held = length z.receipts;
      deed = deeds.Saw (index_of (layout_of o) m) (word_at s m);
    })) (sym known) (saw_right law o s h q.cpu m within)

pub sees : (law : CoreLaws) (o : World) → SeeStays o
sees law o slots id q m within =
    loads o slots id q m
    (λ n v. v ≡ on_pass (seen_pass (index_of (layout_of o) m) n) (seat_of [] (q ∷ []))) within
    (λ s h known. record {
      did = record {
        held = length q.receipts;
        deed = deeds.Saw (index_of (layout_of o) m) (word_at s m);
      };
      right = looked law o s h q m within known;
      told = refl;
    })

pub sees_state : (law : CoreLaws) (o : World) → SeeStateStays o
sees_state law o slots id g q low =
    let m = state_at g in
    loads o slots id q m
    (λ n v. (v ≡ on_pass (seen_pass (index_of (layout_of o) m) n) (seat_of [] (q ∷ [])))
    × HasRoom n) low
    (λ s h known. record {
      did = record {
        held = length q.receipts;
        deed = deeds.Saw (index_of (layout_of o) m) (word_at s m);
      };
      right = looked law o s h q m low known;
      told = (refl, good_word law o s h g);
    })

pub sees_timer : (law : CoreLaws) (o : World) → SeeTimerStays o
sees_timer law o slots id timer q low =
    let m = timer_at timer.0 in
    loads o slots id q m
    (λ n v. (v ≡ on_pass (seen_pass (index_of (layout_of o) m) n) (seat_of [] (q ∷ [])))
    × NamesCpu (q ∷ []) n) low
    (λ s h known. record {
      did = record {
        held = length q.receipts;
        deed = deeds.Saw (index_of (layout_of o) m) (word_at s m);
      };
      right = looked law o s h q m low known;
      told = (refl, names_cpu law o s h timer.0 q known);
    })
