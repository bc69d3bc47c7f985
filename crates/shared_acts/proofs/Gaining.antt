-- for crates above: what a pass gains in a piece of an interrupt, and in pieces in a row
use Rattle.std.proofs.Common.{◌≡◌, ℕ, zero, suc, ◌+◌, ◌<◌, List, [], ◌∷◌, ◌++◌, refl, sym, ap}
use Rattle.std.proofs.Common.{◌∙◌, subst, append-nil, append_assoc, arith, length, length-append}
use Rattle.std.proofs.Common.{Some}
use Rattle.std.specs.Prelude.{slice_get}
use Rattle.std.proofs.lemmas.List.{map-append}
use Rattle.std.proofs.lemmas.Option.{same_Some}
use Rattle.atomic_table.specs.Seated.{TableId}
use Rattle.cpu_bases.specs.declared.entry.Entry.{Entry}
use Rattle.core_world.specs.World.{World, cpu_of}
use Rattle.shared_timers.specs.shared_rule.declared.parts.Deed.{Deed}
use Rattle.shared_timers.specs.shared_rule.declared.parts.Deed.TheVariants as deeds
use Rattle.shared_timers.specs.shared_rule.declared.parts.Did.{Did}
use Rattle.shared_timers.specs.shared_rule.declared.parts.PassView.{PassView}
use Rattle.shared_timers.specs.shared_rule.declared.parts.Receipt.{Receipt}
use Rattle.shared_timers.specs.shared_rule.Passes.{HeldPass, IsPassIn, Seated}
use Rattle.shared_timers.specs.shared_rule.Shows.{BeginsWith}
use Rattle.shared_acts.specs.Interrupts.{KnowsOwn, walks_by}
use Rattle.shared_acts.specs.Pieces.{PassGains, HeldInside, Piece, deeds_of}

-- a journal begins with itself
pub begins : (j : List Entry) → BeginsWith j j
begins j = ([], sym (append-nil j))

pub begins_then : (new mid old : List Entry) → BeginsWith mid old → BeginsWith new mid
    → BeginsWith new old
begins_then new mid old first next = (
  first.0 ++ next.0,
  next.1 ∙ (ap (λ (j : List Entry). j ++ next.0) first.1 ∙ append_assoc old first.0 next.0),
)

-- what holds of the elements of two lists holds of both behind one another
pub each_of_both : {X : Type 0} (P : X → Type 0) (xs ys : List X)
    → ((i : ℕ) (x : X) → slice_get xs i ≡ Some x → P x)
    → ((i : ℕ) (x : X) → slice_get ys i ≡ Some x → P x)
    → (i : ℕ) (x : X) → slice_get (xs ++ ys) i ≡ Some x → P x
each_of_both P [] ys a b i x is = b i x is
each_of_both P (y ∷ xs) ys a b zero x is = a zero x is
each_of_both P (y ∷ xs) ys a b (suc i) x is =
    each_of_both P xs ys (λ j z at. a (suc j) z at) b i x is

-- a place in a journal is one in what it goes on to
place_on : (new old : List Entry) (place : ℕ) → BeginsWith new old → place < length old
    → place < length new
place_on new old place begins low =
    let l = ap length begins.1 in let m = length-append old begins.0 in
    omega (arith, low, l, m)

-- OWN ENTRIES: a journal that goes on has those of the receipts before, and these more
pub known_more : (p : PassView) (more : List Receipt) (journal : List Entry)
    → BeginsWith journal p.journal
    → ((i : ℕ) (r : Receipt) → slice_get more i ≡ Some r → r.cpu.0 ≡ p.cpu
    → r.place < length journal) → KnowsOwn p
    → KnowsOwn (record p { receipts = p.receipts ++ more; journal = journal })
known_more p more journal begins each known =
    each_of_both (λ (r : Receipt). r.cpu.0 ≡ p.cpu → r.place < length journal) p.receipts more
    (λ i r at own. place_on journal p.journal r.place begins (known i r at own)) each

-- the walks that are ended by deeds, and then by others
walks_of_both : (xs ys : List Deed) → walks_by (xs ++ ys) ≡ walks_by xs + walks_by ys
walks_of_both [] ys = omega arith
walks_of_both (deeds.Saw word found ∷ xs) ys = walks_of_both xs ys
walks_of_both (deeds.Took cpu ∷ xs) ys = walks_of_both xs ys
walks_of_both (deeds.Carried cpu next ∷ xs) ys =
    let rest = walks_of_both xs ys in omega (arith, rest)
walks_of_both (deeds.Released cpu ∷ xs) ys = walks_of_both xs ys

-- NOTHING: a pass that knows its CPU's journal further has gained nothing
pub none_gained : (p : PassView) (journal : List Entry) → BeginsWith journal p.journal
    → PassGains p (record p { journal = journal }) [] [] 0
none_gained p journal begins = record {
  opening = refl;
  cpu = refl;
  walks_are = omega arith;
  ended = refl;
  receipts_are = sym (append-nil p.receipts);
  did_are = sym (append-nil p.did);
  idle = refl;
  inside = refl;
  reeval = refl;
  wakeup = refl;
  marks = refl;
  journal = begins;
  known = λ known i r at own. place_on journal p.journal r.place begins (known i r at own);
}

-- ONE BEHIND THE OTHER
pub gains_then : (p q s : PassView) (receipts more : List Receipt) (did later : List Did)
    (walks others : ℕ) → PassGains p q receipts did walks → PassGains q s more later others
    → PassGains p s (receipts ++ more) (did ++ later) (walks + others)
gains_then p q s receipts more did later walks others first next = record {
  opening = next.opening ∙ first.opening;
  cpu = next.cpu ∙ first.cpu;
  walks_are = (let a = first.walks_are in let b = next.walks_are in omega (arith, a, b));
  ended =
      (let a = first.ended in
      let b = next.ended in
      let c = walks_of_both (deeds_of did) (deeds_of later) in
      let d = ap walks_by (map-append (λ (x : Did). x.deed) did later) in omega (arith, a, b, c, d));
  receipts_are =
      next.receipts_are
      ∙ (ap (λ (x : List Receipt). x ++ more) first.receipts_are
      ∙ append_assoc p.receipts receipts more);
  did_are =
      next.did_are
      ∙ (ap (λ (x : List Did). x ++ later) first.did_are ∙ append_assoc p.did did later);
  idle = next.idle ∙ first.idle;
  inside = next.inside ∙ first.inside;
  reeval = next.reeval ∙ first.reeval;
  wakeup = next.wakeup ∙ first.wakeup;
  marks = next.marks ∙ first.marks;
  journal = begins_then s.journal q.journal p.journal first.journal next.journal;
  known = λ own. next.known (first.known own);
}

-- what a pass knows is one
pub same_pass : (table : TableId) (held : HeldPass) (p q : PassView) → IsPassIn table held p
    → IsPassIn table held q → p ≡ q
same_pass table held p q is it =
    ap (λ (x : Seated). x.pass)
    (same_Some (record { table = table; pass = p }) (record { table = table; pass = q })
    (sym is ∙ it))

-- A PIECE of which this is the pass before and after
abbrev pub piece_of : (table : TableId) (held after : HeldPass) (p q : PassView)
    (receipts : List Receipt) (did : List Did) (walks : ℕ) → IsPassIn table held p
    → IsPassIn table after q → after.cpu ≡ held.cpu → PassGains p q receipts did walks
    → Piece table held after receipts did walks
piece_of table held after p q receipts did walks is later cpu gains =
    record { before = p; later = q; had = is; has = later; cpu = cpu; gains = gains }

abbrev pub no_piece : (table : TableId) (held : HeldPass) (p : PassView) → IsPassIn table held p
    → Piece table held held [] [] 0
no_piece table held p is =
    piece_of table held held p p [] [] 0 is is refl (none_gained p p.journal (begins p.journal))

-- PIECES one behind the other are one
abbrev pub piece_then : (table : TableId) (held mid after : HeldPass) (receipts more : List Receipt)
    (did later : List Did) (walks others : ℕ) → Piece table held mid receipts did walks
    → Piece table mid after more later others
    → Piece table held after (receipts ++ more) (did ++ later) (walks + others)
piece_then table held mid after receipts more did later walks others first next =
    let same = same_pass table mid next.before first.later next.had first.has in
    record {
      before = first.before;
      later = next.later;
      had = first.had;
      has = next.has;
      cpu = next.cpu ∙ first.cpu;
      gains =
          gains_then first.before first.later next.later receipts more did later walks others
          first.gains
          (subst (λ (x : PassView). PassGains x next.later more later others) same next.gains);
    }

-- and before the second one the pass has the receipts of the first one more
pub receipts_then : (table : TableId) (held mid after : HeldPass) (receipts more : List Receipt)
    (did later : List Did) (walks others : ℕ) (first : Piece table held mid receipts did walks)
    (next : Piece table mid after more later others)
    → length next.before.receipts ≡ length first.before.receipts + length receipts
receipts_then table held mid after receipts more did later walks others first next =
    let same = same_pass table mid next.before first.later next.had first.has in
    ap (λ (x : PassView). length x.receipts) same
    ∙ (ap length first.gains.receipts_are ∙ length-append first.before.receipts receipts)

-- the pass after a piece is inside as it was
pub still_inside : (table : TableId) (o : World) (held after : HeldPass)
    (receipts : List Receipt) (did : List Did) (walks : ℕ) → HeldInside table o held
    → Piece table held after receipts did walks → HeldInside table o after
still_inside table o held after receipts did walks was piece =
    let same = same_pass table held piece.before was.pass piece.had was.seated in
    let p = was.pass in
    let q = piece.later in
    let gains = subst (λ (x : PassView). PassGains x q receipts did walks) same piece.gains in
    record {
      pass = q;
      seated = piece.has;
      is =
          record {
            opening = gains.opening ∙ was.is.opening;
            cpu = subst (λ n. n < length o.cpus) (sym gains.cpu) was.is.cpu;
            online = ap (λ n. (cpu_of o n).online) gains.cpu ∙ was.is.online;
            inside = gains.inside ∙ was.is.inside;
            goes_on = gains.reeval ∙ was.is.goes_on;
          };
    }
