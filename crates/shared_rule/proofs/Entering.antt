-- for crates above: an entry and its receipt, which come in one step
use Rattle.std.proofs.Common.{◌≡◌, ◌≢◌, ◌⊎◌, ℕ, ◌<◌, ◌≤◌, eqb, eq-eqb, ne_eqb, cond, [], ◌∷◌}
use Rattle.std.proofs.Common.{◌++◌, length, Some, refl, sym, ap, ◌∙◌, subst, inl, inr, ⊎_elim}
use Rattle.std.proofs.Common.{arith}
use Rattle.std.specs.Prelude.{slice_get}
use Rattle.std.proofs.lemmas.Bool.{cases_eq}
use Rattle.std.proofs.lemmas.Option.{slice_get_within}
use Rattle.cpu_bases.specs.declared.entry.Entry.{Entry}
use Rattle.cpu_bases.specs.declared.entry.Act.TheVariants.{Armed}
use Rattle.core_world.specs.World.{World}
use Rattle.shared_rule.specs.declared.parts.PassView.{PassView}
use Rattle.shared_rule.specs.declared.parts.Receipt.{Receipt}
use Rattle.shared_rule.specs.Shows.{HasReceipt, IsTrueReceipt, Noted, journal_of, receipt_of}
use Rattle.shared_rule.proofs.Fronts.{get_left, get_end, get_snoc}

-- which pass has the receipt of a place, once that of the new entry of c is at `at`
abbrev pub holder_after : (ℕ → ℕ → ℕ × ℕ) → (c end : ℕ) → ℕ × ℕ → ℕ → ℕ → ℕ × ℕ
holder_after holder c end at d place =
    cond (eqb d c) (cond (eqb place end) at (holder d place)) (holder d place)

-- what has to be known of a new entry e of c's journal, whose receipt goes to the pass of q
pub record EntryFits (o : World) (c q : ℕ) (e : Entry) : Type 0 where
  pub runner : q < length o.cpus
  pub at : e.at ≡ o.clock
  pub by : e.by.0 ≡ q
  pub armed : e.act ≡ Armed → c ≡ q

module _ (o w v : World) (pass next : ℕ → PassView) (holder : ℕ → ℕ → ℕ × ℕ) (c q : ℕ) (e : Entry)
    (fits : EntryFits o c q e) (grown : length (journal_of o c) ≤ length (journal_of w c))
    (own : journal_of v c ≡ journal_of w c ++ e ∷ [])
    (others : (d : ℕ) → d ≢ c → journal_of v d ≡ journal_of w d)
    (mine : (next q).receipts ≡ (pass q).receipts ++ receipt_of c (length (journal_of w c)) e ∷ [])
    (rest : (d : ℕ) → d ≢ q → (next d).receipts ≡ (pass d).receipts)
    (n : Noted o w pass holder) where
  abbrev end : ℕ
  end = length (journal_of w c)

  abbrev at : ℕ × ℕ
  at = (q, length (pass q).receipts)

  abbrev after : ℕ → ℕ → ℕ × ℕ
  after = holder_after holder c end at

  abbrev new_receipt : Receipt
  new_receipt = receipt_of c end e

  held_other : (d place : ℕ) → d ≢ c → after d place ≡ holder d place
  held_other d place ne =
      ap (λ b. cond b (cond (eqb place end) at (holder d place)) (holder d place)) (ne_eqb d c ne)

  held_old : (d place : ℕ) → d ≡ c → place ≢ end → after d place ≡ holder d place
  held_old d place is ne =
      ap (λ b. cond b (cond (eqb place end) at (holder d place)) (holder d place)) (eq-eqb d c is)
      ∙ ap (λ b. cond b at (holder d place)) (ne_eqb _ _ ne)

  held_new : after c end ≡ at
  held_new =
      ap (λ b. cond b (cond (eqb end end) at (holder c end)) (holder c end)) (eq-eqb c c refl)
      ∙ ap (λ b. cond b at (holder c end)) (eq-eqb end end refl)

  -- an entry that stood stands, and its receipt is held where it was
  stands : (d place : ℕ) (x : Entry) → slice_get (journal_of w d) place ≡ Some x
      → (slice_get (journal_of v d) place ≡ Some x) × (after d place ≡ holder d place)
  stands d place x there = elim (cases_eq d c) [
    | inl is ↦
        let here : slice_get (journal_of w c) place ≡ Some x
        = subst (λ m. slice_get (journal_of w m) place ≡ Some x) is there in
        let low = slice_get_within (journal_of w c) place x here in (
          ap (λ m. slice_get (journal_of v m) place) is
              ∙ (ap (λ l. slice_get l place) own ∙ get_left (journal_of w c) (e ∷ []) place x here),
          held_old d place is (λ z. absurd (omega (arith, low, z))),
        )
    | inr ne ↦ (ap (λ l. slice_get l place) (others d ne) ∙ there, held_other d place ne)
  ]

  was_true : (d i : ℕ) (r : Receipt) → slice_get (pass d).receipts i ≡ Some r
      → IsTrueReceipt o v after d i r
  was_true d i r there =
      let t = n.true d i r there in
      let s = stands r.cpu.0 r.place r.entry t.stands in
      record {
        stands = s.0;
        later = t.later;
        line = t.line;
        at = t.at;
        by = t.by;
        armed = t.armed;
        held = s.1 ∙ t.held;
      }

  new_true : IsTrueReceipt o v after q (length (pass q).receipts) new_receipt
  new_true = record {
    stands = ap (λ l. slice_get l end) own ∙ get_end (journal_of w c) e;
    later = grown;
    line = refl;
    at = fits.at;
    by = fits.by;
    armed = fits.armed;
    held = held_new;
  }

  -- a receipt of pass q is an old one, or the new one
  abbrev Which : (i : ℕ) → Receipt → Type 0
  Which i r =
      (slice_get (pass q).receipts i ≡ Some r)
      ⊎ ((i ≡ length (pass q).receipts) × (new_receipt ≡ r))

  which : (d i : ℕ) (r : Receipt) → d ≡ q → slice_get (next d).receipts i ≡ Some r → Which i r
  which d i r is there =
      get_snoc (pass q).receipts new_receipt i r
      (ap (λ l. slice_get l i) (sym mine)
      ∙ subst (λ m. slice_get (next m).receipts i ≡ Some r) is there)

  still_has : (x i : ℕ) (r : Receipt) → slice_get (pass x).receipts i ≡ Some r
      → slice_get (next x).receipts i ≡ Some r
  still_has x i r there = elim (cases_eq x q) [
    | inl is ↦
        ap (λ m. slice_get (next m).receipts i) is
        ∙ (ap (λ l. slice_get l i) mine
        ∙ get_left (pass q).receipts _ i r
        (subst (λ m. slice_get (pass m).receipts i ≡ Some r) is there))
    | inr ne ↦ ap (λ l. slice_get l i) (rest x ne) ∙ there
  ]

  abbrev HasIt : ℕ → ℕ → Entry → ℕ × ℕ → Type 0
  HasIt d place x h = HasReceipt (length o.cpus) next h (receipt_of d place x)

  had : (d place : ℕ) (x : Entry) → slice_get (journal_of w d) place ≡ Some x
      → length (journal_of o d) ≤ place → HasIt d place x (after d place)
  had d place x there later =
      let t = n.all d place x there later in
      subst (HasIt d place x) (sym (stands d place x there).1)
      (record { in_range = t.in_range; stands = still_has _ _ _ t.stands })

  has_new : HasIt c end e (after c end)
  has_new =
      subst (HasIt c end e) (sym held_new)
      (record {
        in_range = fits.runner;
        stands =
            ap (λ l. slice_get l (length (pass q).receipts)) mine
            ∙ get_end (pass q).receipts new_receipt;
      })

  -- an old receipt stands before the new entry
  before_new : (i : ℕ) (r : Receipt) → slice_get (pass q).receipts i ≡ Some r → r.cpu.0 ≡ c
      → r.place < end
  before_new i r there is =
      slice_get_within (journal_of w c) r.place r.entry
      (ap (λ m. slice_get (journal_of w m) r.place) (sym is) ∙ (n.true q i r there).stands)

  ordered : (i j : ℕ) (r s : Receipt) → Which i r → Which j s → r.cpu.0 ≡ s.cpu.0 → i < j
      → r.place < s.place
  ordered i j r s (inl a) (inl b) same less = n.order q i j r s a b same less
  ordered i j r s (inl a) (inr b) same less =
      subst (λ (z : Receipt). r.place < z.place) b.1
      (before_new i r a (same ∙ ap (λ (z : Receipt). z.cpu.0) (sym b.1)))
  ordered i j r s (inr a) (inl b) same less =
      let low = slice_get_within (pass q).receipts j s b in
      absurd (omega (arith, low, a.0, less))
  ordered i j r s (inr a) (inr b) same less = absurd (omega (arith, a.0, b.0, less))

  pub noted_more : Noted o v next after
  noted_more = record {
    true = λ d i r there. elim (cases_eq d q) [
      | inl is ↦
          subst (λ m. IsTrueReceipt o v after m i r) (sym is)
          (⊎_elim (λ old. was_true q i r old)
          (λ (t : (i ≡ length (pass q).receipts) × (new_receipt ≡ r)).
          subst (IsTrueReceipt o v after q i) t.1
          (subst (λ m. IsTrueReceipt o v after q m new_receipt) (sym t.0) new_true))
          (which d i r is there))
      | inr ne ↦ was_true d i r (ap (λ l. slice_get l i) (sym (rest d ne)) ∙ there)
    ];
    all = λ d place x there later. elim (cases_eq d c) [
      | inl is ↦
          ⊎_elim
          (λ old. had d place x
          (subst (λ m. slice_get (journal_of w m) place ≡ Some x) (sym is) old) later)
          (λ (t : (place ≡ end) × (e ≡ x)).
          subst (λ m. HasIt m place x (after m place)) (sym is)
          (subst (λ m. HasIt c m x (after c m)) (sym t.0)
          (subst (λ z. HasIt c end z (after c end)) t.1 has_new)))
          (get_snoc (journal_of w c) e place x
          (ap (λ l. slice_get l place) (sym own)
          ∙ subst (λ m. slice_get (journal_of v m) place ≡ Some x) is there))
      | inr ne ↦ had d place x (ap (λ l. slice_get l place) (sym (others d ne)) ∙ there) later
    ];
    order = λ d i j r s ati atj. elim (cases_eq d q) [
      | inl is ↦ ordered i j r s (which d i r is ati) (which d j s is atj)
      | inr ne ↦
          n.order d i j r s (ap (λ l. slice_get l i) (sym (rest d ne)) ∙ ati)
          (ap (λ l. slice_get l j) (sym (rest d ne)) ∙ atj)
    ];
  }
