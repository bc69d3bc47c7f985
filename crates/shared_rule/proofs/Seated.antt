-- the seat of a pass that has one
use Rattle.std.proofs.Common.{◌≡◌, ℕ, List, [], ◌∷◌, Option, Some, None, sym, ap, ◌∙◌, subst}
use Rattle.std.specs.Prelude.{option_map}
use Rattle.atomic_table.specs.Seated.{TableId}
use Rattle.atomic_table.specs.declared.shared.Seat.{Seat}
use Rattle.shared_rule.specs.declared.parts.PassView.{PassView}
use Rattle.shared_rule.specs.declared.parts.Receipt.{Receipt}
use Rattle.shared_rule.specs.declared.parts.Said.{Said}
use Rattle.shared_rule.specs.declared.parts.View.{View}
use Rattle.shared_rule.specs.Plays.{on_pass, seen_pass}
use Rattle.shared_rule.specs.Rule.{Me, seat_of}
use Rattle.shared_rule.specs.Passes.{HeldPass, IsSeatOf, PassHolds, Seated, seat_in, seated_of}
use Rattle.shared_rule.specs.Passes.{receipts_of, with_pass}

-- the seat in the words of clauses
abbrev pub shown_seat : Option (Seat Said View) → Option (TableId × Me)
shown_seat m = option_map (λ s. (s.table_id, s.me)) m

-- where there is a seat, it has a pass with these bytes
pub seat_there : (m : Option (Seat Said View)) (s : Seat Said View) (cpu walks : ℕ)
    (receipts : List Receipt) → m ≡ Some s → PassHolds (shown_seat m) cpu walks receipts
    → (p : PassView) × (seat_in (shown_seat m) ≡ Some (record { table = s.table_id; pass = p }))
    × IsSeatOf s.me p cpu walks receipts
seat_there m s cpu walks receipts is holds =
    let h : PassHolds (shown_seat (Some s)) cpu walks receipts = subst
    (λ (z : Option (Seat Said View)). PassHolds (shown_seat z) cpu walks receipts) is holds in (
      h.0,
      ap (λ (z : Option (Seat Said View)). seat_in (shown_seat z)) is
          ∙ ap (λ (z : Me). seated_of s.table_id z.0.passes) h.1.alone,
      h.1,
    )

-- a pass without a seat is away
pub no_seat : (m : Option (Seat Said View)) → m ≡ None → seat_in (shown_seat m) ≡ None
no_seat m is = ap (λ (z : Option (Seat Said View)). seat_in (shown_seat z)) is

-- after a load the seat has a pass with the same bytes
pub loaded : (m k : Me) (p : PassView) (cpu walks : ℕ) (receipts : List Receipt) (word found : ℕ)
    → IsSeatOf m p cpu walks receipts → k ≡ on_pass (seen_pass word found) m
    → (q : PassView) × IsSeatOf k q cpu walks receipts
loaded m k p cpu walks receipts word found is new = (
  seen_pass word found p,
  record {
    alone = new ∙ ap (on_pass (seen_pass word found)) is.alone;
    cpu_is = is.cpu_is;
    walks_are = is.walks_are;
    receipts_are = is.receipts_are;
  },
)

-- a pass of this CPU, with room for so many receipts
abbrev pub held_pass : (cpu room : ℕ) → Option Seated → HeldPass
held_pass cpu room seated = record { cpu = cpu; room = room; seated = seated }

-- what a load leaves of the pass
pub remembered : (held : HeldPass) (m : Option (Seat Said View)) (s : Seat Said View)
    (table : TableId) (k : Me) (p : PassView) (cpu room i j found : ℕ)
    → held_pass cpu room (seat_in (shown_seat m)) ≡ held
    → seat_in (shown_seat m) ≡ Some (record { table = s.table_id; pass = p })
    → s.me ≡ seat_of [] (p ∷ []) → table ≡ s.table_id → k ≡ on_pass (seen_pass i found) s.me
    → i ≡ j
    → held_pass cpu room (seated_of table k.0.passes) ≡ with_pass (seen_pass j found) held
remembered held m s table k p cpu room i j found seen there alone named new at =
    let both = new ∙ ap (on_pass (seen_pass i found)) alone in
    (λ t. held_pass cpu room (seated_of (named t) (both t).0.passes))
    ∙ (ap (λ w. held_pass cpu room (Some (record {
      table = s.table_id;
      pass = seen_pass w found p;
    }))) at
    ∙ (ap (λ o. with_pass (seen_pass j found) (held_pass cpu room o)) (sym there)
    ∙ ap (with_pass (seen_pass j found)) seen))

-- the receipts of a pass are those of its bytes
pub receipts_there : (m : Option (Seat Said View)) (cpu walks : ℕ) (receipts : List Receipt)
    → PassHolds (shown_seat m) cpu walks receipts → receipts_of (seat_in (shown_seat m)) ≡ receipts
receipts_there None cpu walks receipts holds = sym holds.receipts_are
receipts_there (Some s) cpu walks receipts holds =
    ap (λ (z : Me). receipts_of (seated_of s.table_id z.0.passes)) holds.1.alone
    ∙ holds.1.receipts_are
