-- the links after the writes of a push and of an unlink
use Rattle.std.proofs.Common.{◌≡◌, ℕ, ◌+◌, ◌-◌, ◌<◌, ◌≤◌, List, [], ◌∷◌, ◌++◌, length, get_or, None, Some, refl, ap, ◌∙◌, sym, subst, inl, inr, arith, slice_set}
use Rattle.std.specs.Prelude.{◌==◌, if◌then◌else◌}
use Rattle.std.proofs.lemmas.Bool.{cases_eq, eq-eqb, ne_eqb, cond-true, cond-false}
use Rattle.std.proofs.lemmas.List.{get_or_read, get_or-set_same, get_or-set_other, length-set}
use Rattle.key_lists.specs.declared.link.Link.{Link}
use Rattle.key_lists.specs.Tables.{KeyTable, Lacks, Holds, first_key, last_of, list_of, without}
use Rattle.key_lists.specs.Rings.{no_link, newer_of, older_of, keys_of, table_of, IsPath, IsRings}
use Rattle.key_lists.proofs.Paths.{Around, around, path_from, last_ends, last_other, last_within, before_none, before_some, first_is, first_at, last_is, last_at}
use Rattle.key_lists.proofs.Changes.{Joins, unlinked, Puts, kept, pushed}
use Rattle.key_lists.proofs.Rings.{keeps_lists, list_is}

set_here : (s : List Link) (i : ℕ) (link : Link) → i < length s → (newer_of (slice_set s i link) i ≡ link.newer) × (older_of (slice_set s i link) i ≡ link.older)
set_here s i link within =
    let here = get_or-set_same s i link no_link within in
    (ap (λ (x : Link). x.newer) here, ap (λ (x : Link). x.older) here)

set_else : (s : List Link) (i : ℕ) (link : Link) (j : ℕ) → (j ≡ i → ⊥) → (newer_of (slice_set s i link) j ≡ newer_of s j) × (older_of (slice_set s i link) j ≡ older_of s j)
set_else s i link j other =
    let same = get_or-set_other s i j link no_link other in
    (ap (λ (x : Link). x.newer) same, ap (λ (x : Link). x.older) same)

newer_kept : (s : List Link) (i : ℕ) (link : Link) → i < length s → link.newer ≡ newer_of s i → (j : ℕ) → newer_of (slice_set s i link) j ≡ newer_of s j
newer_kept s i link within same j =
    elim (cases_eq j i) [
      | inl here ↦ ap (newer_of (slice_set s i link)) here ∙ ((set_here s i link within).0 ∙ (same ∙ ap (newer_of s) (sym here)))
      | inr other ↦ (set_else s i link j other).0
    ]

older_kept : (s : List Link) (i : ℕ) (link : Link) → i < length s → link.older ≡ older_of s i → (j : ℕ) → older_of (slice_set s i link) j ≡ older_of s j
older_kept s i link within same j =
    elim (cases_eq j i) [
      | inl here ↦ ap (older_of (slice_set s i link)) here ∙ ((set_here s i link within).1 ∙ (same ∙ ap (older_of s) (sym here)))
      | inr other ↦ (set_else s i link j other).1
    ]

-- UNLINK
module _ (n key o w : ℕ) (s : List Link) (first second : Link) where
  abbrev s1 : List Link
  s1 = slice_set s o (record { older = first.older; newer = w })

  abbrev s2 : List Link
  s2 = slice_set s1 w (record { older = o; newer = second.newer })

  joins : Around (newer_of s) (older_of s) (length s) (n + key) → older_of s (n + key) ≡ o → newer_of s (n + key) ≡ w
      → first.older ≡ older_of s o → second.newer ≡ newer_of s1 w → Joins (newer_of s) (older_of s) (newer_of s2) (older_of s2) (n + key)
  joins near is_o is_w at_o at_w =
      let within_o : o < length s = subst (λ x. x < length s) is_o near.older_within in
      let within_w : w < length s1 = subst (λ x. x < length s1) is_w (omega (arith, near.newer_within, length-set {A = Link})) in
      let link1 : Link = record { older = first.older; newer = w } in
      let link2 : Link = record { older = o; newer = second.newer } in
      let newer = newer_kept s1 w link2 within_w at_w in
      let older = older_kept s o link1 within_o at_o in
      record {
        o = o;
        w = w;
        older_is = is_o;
        newer_is = is_w;
        from_older = ap (newer_of s) (sym is_o) ∙ near.after_older;
        from_newer = ap (older_of s) (sym is_w) ∙ near.before_newer;
        newer_at = newer o ∙ (set_here s o link1 within_o).0;
        newer_else = λ i other. newer i ∙ (set_else s o link1 i other).0;
        older_at = (set_here s1 w link2 within_w).1;
        older_else = λ i other. (set_else s1 w link2 i other).1 ∙ older i;
      }

  pub after_unlink : (old : KeyTable) → table_of n s ≡ old → IsRings n s → (c : ℕ) × (c < old.number) × Holds key (list_of old c)
      → older_of s (n + key) ≡ o → newer_of s (n + key) ≡ w → first.older ≡ older_of s o → second.newer ≡ newer_of s1 w
      → IsRings n s2 × ((c : ℕ) → c < old.number → list_of (table_of n s2) c ≡ without key (list_of old c))
  after_unlink old view rings held is_o is_w at_o at_w =
      let f = newer_of s in
      let g = older_of s in
      let size : length s2 ≡ length s = length-set s1 w (record { older = o; newer = second.newer }) ∙ length-set s o (record { older = first.older; newer = w }) in
      let number : n ≡ old.number = ap (λ (t : KeyTable). t.number) view in
      let end : held.0 < n = omega (arith, held.1) in
      let holds : Holds key (keys_of n s held.0) = subst (Holds key) (ap (λ t. list_of t held.0) (sym view) ∙ list_is n s held.0 end) held.2 in
      let near = around f g n (length s) held.0 held.0 key (keys_of n s held.0) (omega (arith, rings.ends)) (omega (arith, rings.ends)) (rings.ring held.0 end) holds in
      let j = joins near is_o is_w at_o at_w in
      let keeps = keeps_lists n s2 (λ c. without key (keys_of n s c)) (omega (arith, rings.ends)) (omega (arith, rings.few))
      (λ c end. subst (λ m. IsPath (newer_of s2) (older_of s2) n m c c (without key (keys_of n s c))) (sym size)
      (unlinked f g (newer_of s2) (older_of s2) n (length s) key j c c (keys_of n s c) end (rings.ring c end) (λ e. omega arith))) in (
        keeps.rings,
        λ c below.
            let end : c < n = omega arith in
            keeps.lists_are c end ∙ ap (without key) (sym (list_is n s c end) ∙ ap (λ t. list_of t c) view),
      )

-- PUSH
older_below : (n c l : ℕ) (s : List Link) → IsRings n s → c < n → older_of s c ≡ l → l < length s
older_below n c l s rings end is_l =
    subst (λ x. x < length s) is_l (last_within (newer_of s) (older_of s) n (length s) c c (keys_of n s c) (omega (arith, rings.ends)) (rings.ring c end))

pub list_within : (n : ℕ) (s : List Link) (c : ℕ) (old : KeyTable) → table_of n s ≡ old → IsRings n s → c < old.number → c < length s
list_within n s c old view rings end = let number = ap (λ (t : KeyTable). t.number) view in omega (arith, rings.ends)

pub last_below : (n c l : ℕ) (s : List Link) (old : KeyTable) → table_of n s ≡ old → IsRings n s → c < old.number → older_of s c ≡ l → l < length s
last_below n c l s old view rings end is_l = let number = ap (λ (t : KeyTable). t.number) view in older_below n c l s rings (omega arith) is_l

module _ (n key c l : ℕ) (s : List Link) (second third : Link) where
  abbrev t1 : List Link
  t1 = slice_set s (n + key) (record { older = l; newer = c })

  abbrev t2 : List Link
  t2 = slice_set t1 l (record { older = second.older; newer = n + key })

  abbrev t3 : List Link
  t3 = slice_set t2 c (record { older = n + key; newer = third.newer })

  puts : c < n → n ≤ length s → n + key < length s → l < length s → (l ≡ n + key → ⊥) → older_of s c ≡ l → newer_of s l ≡ c
      → second.older ≡ older_of t1 l → third.newer ≡ newer_of t2 c → Puts (newer_of s) (older_of s) (newer_of t3) (older_of t3) c (n + key)
  puts end ends room within apart is_l ends_l at_l at_c =
      let link1 : Link = record { older = l; newer = c } in
      let link2 : Link = record { older = second.older; newer = n + key } in
      let link3 : Link = record { older = n + key; newer = third.newer } in
      let size1 = length-set s (n + key) link1 in
      let size2 = length-set t1 l link2 in
      let within1 : l < length t1 = omega arith in
      let within2 : c < length t2 = omega arith in
      let newer = newer_kept t2 c link3 within2 at_c in
      let older = older_kept t1 l link2 within1 at_l in
      record {
        l = l;
        last_is = is_l;
        last_ends = ends_l;
        newer_last = newer l ∙ (set_here t1 l link2 within1).0;
        newer_new = newer (n + key) ∙ ((set_else t1 l link2 (n + key) (λ e. apart (sym e))).0 ∙ (set_here s (n + key) link1 room).0);
        newer_else = λ i other new. newer i ∙ ((set_else t1 l link2 i other).0 ∙ (set_else s (n + key) link1 i new).0);
        older_new = (set_else t2 c link3 (n + key) (λ e. omega arith)).1 ∙ (older (n + key) ∙ (set_here s (n + key) link1 room).1);
        older_end = (set_here t2 c link3 within2).1;
        older_else = λ i other new. (set_else t2 c link3 i other).1 ∙ (older i ∙ (set_else s (n + key) link1 i new).1);
      }

  -- the lists after the push
  abbrev lists_now : ℕ → List ℕ
  lists_now d = if d == c then keys_of n s c ++ key ∷ [] else keys_of n s d

  ring_now : c < n → n + key < length s → Puts (newer_of s) (older_of s) (newer_of t3) (older_of t3) c (n + key) → IsRings n s
      → ((d : ℕ) → d < n → Lacks key (keys_of n s d)) → (d : ℕ) → d < n → IsPath (newer_of t3) (older_of t3) n (length s) d d (lists_now d)
  ring_now end room p rings free d below =
      elim (cases_eq d c) [
        | inl here ↦
            subst (IsPath (newer_of t3) (older_of t3) n (length s) d d) (sym (cond-true (d == c) (keys_of n s c ++ key ∷ []) (keys_of n s d) (eq-eqb d c here)))
            (subst (λ x. IsPath (newer_of t3) (older_of t3) n (length s) x x (keys_of n s c ++ key ∷ [])) (sym here)
            (pushed (newer_of s) (older_of s) (newer_of t3) (older_of t3) n (length s) c key end room p c (keys_of n s c) (rings.ring c end) (λ e. omega arith) (free c end)))
        | inr other ↦
            subst (IsPath (newer_of t3) (older_of t3) n (length s) d d) (sym (cond-false (d == c) (keys_of n s c ++ key ∷ []) (keys_of n s d) (ne_eqb d c other)))
            (kept (newer_of s) (older_of s) (newer_of t3) (older_of t3) n (length s) c key end room p d d (keys_of n s d) below other (rings.ring d below) (λ e. omega arith) (free d below))
      ]

  pub record Pushed (old : KeyTable) : Type 0 where
    pub rings : IsRings n t3
    pub pushed : list_of (table_of n t3) c ≡ list_of old c ++ key ∷ []
    pub others : (d : ℕ) → d < old.number → (d ≡ c → ⊥) → list_of (table_of n t3) d ≡ list_of old d

  pub after_push : (old : KeyTable) → table_of n s ≡ old → IsRings n s → c < old.number → key < old.room
      → ((d : ℕ) → d < old.number → Lacks key (list_of old d)) → older_of s c ≡ l → second.older ≡ older_of t1 l → third.newer ≡ newer_of t2 c → Pushed old
  after_push old view rings end_old room_old free_old is_l at_l at_c =
      let number : n ≡ old.number = ap (λ (t : KeyTable). t.number) view in
      let rooms : length s - n ≡ old.room = ap (λ (t : KeyTable). t.room) view in
      let end : c < n = omega arith in
      let room : n + key < length s = omega (arith, rings.ends) in
      let was : (d : ℕ) → d < n → keys_of n s d ≡ list_of old d = λ d below. sym (list_is n s d below) ∙ ap (λ t. list_of t d) view in
      let free : (d : ℕ) → d < n → Lacks key (keys_of n s d) = λ d below. subst (Lacks key) (sym (was d below)) (free_old d (omega arith)) in
      let path = rings.ring c end in
      let apart : l ≡ n + key → ⊥ = λ e. last_other (newer_of s) (older_of s) n (length s) c c key (keys_of n s c) path (λ same. omega arith) (free c end) (is_l ∙ e) in
      let ends_l : newer_of s l ≡ c = ap (newer_of s) (sym is_l) ∙ last_ends (newer_of s) (older_of s) n (length s) c c (keys_of n s c) path in
      let p = puts end rings.ends room (older_below n c l s rings end is_l) apart is_l ends_l at_l at_c in
      let size1 = length-set s (n + key) (record { older = l; newer = c }) in
      let size2 = length-set t1 l (record { older = second.older; newer = n + key }) in
      let size3 = length-set t2 c (record { older = n + key; newer = third.newer }) in
      let size : length t3 ≡ length s = omega arith in
      let keeps = keeps_lists n t3 lists_now (omega (arith, rings.ends)) (omega (arith, rings.few))
      (λ d below. subst (λ m. IsPath (newer_of t3) (older_of t3) n m d d (lists_now d)) (sym size) (ring_now end room p rings free d below)) in
      record {
        rings = keeps.rings;
        pushed = keeps.lists_are c end ∙ (cond-true (c == c) (keys_of n s c ++ key ∷ []) (keys_of n s c) (eq-eqb c c refl) ∙ ap (λ ks. ks ++ key ∷ []) (was c end));
        others = λ d below other.
            let inside : d < n = omega arith in
            keeps.lists_are d inside ∙ (cond-false (d == c) (keys_of n s c ++ key ∷ []) (keys_of n s d) (ne_eqb d c other) ∙ was d inside);
      }

-- READS
pub reads : (s : List Link) (i : ℕ) (x : Link) → i < length s → x ≡ get_or s i x → (x.older ≡ older_of s i) × (x.newer ≡ newer_of s i)
reads s i x within is =
    let at = get_or_read s i x within is no_link in
    (ap (λ (y : Link). y.older) at, ap (λ (y : Link). y.newer) at)

pub record IsHeld (n : ℕ) (s : List Link) (key : ℕ) : Type 0 where
  pub place : n + key < length s
  pub near : Around (newer_of s) (older_of s) (length s) (n + key)

pub is_held : (n : ℕ) (s : List Link) (key : ℕ) (old : KeyTable) → table_of n s ≡ old → IsRings n s → (c : ℕ) × (c < old.number) × Holds key (list_of old c) → IsHeld n s key
is_held n s key old view rings held =
    let number : n ≡ old.number = ap (λ (t : KeyTable). t.number) view in
    let end : held.0 < n = omega (arith, held.1) in
    let holds : Holds key (keys_of n s held.0) = subst (Holds key) (ap (λ t. list_of t held.0) (sym view) ∙ list_is n s held.0 end) held.2 in
    record {
      place = (path_from (newer_of s) (older_of s) n (length s) held.0 held.0 key (keys_of n s held.0) (rings.ring held.0 end) holds).3;
      near = around (newer_of s) (older_of s) n (length s) held.0 held.0 key (keys_of n s held.0) (omega (arith, rings.ends)) (omega (arith, rings.ends)) (rings.ring held.0 end) holds;
    }

pub last_none : (n : ℕ) (s : List Link) (c x : ℕ) (old : KeyTable) → table_of n s ≡ old → IsRings n s → c < old.number → x ≡ older_of s c → x < n → None ≡ last_of (list_of old c)
last_none n s c x old view rings end_old is below =
    let number = ap (λ (t : KeyTable). t.number) view in
    let end : c < n = omega arith in
    last_is (newer_of s) (older_of s) n (length s) c (keys_of n s c) end (rings.ring c end) (subst (λ y. y < n) is below)
    ∙ ap last_of (sym (list_is n s c end) ∙ ap (λ t. list_of t c) view)

pub last_some : (n : ℕ) (s : List Link) (c x : ℕ) (old : KeyTable) → table_of n s ≡ old → IsRings n s → c < old.number → x ≡ older_of s c → n ≤ x → Some (x - n) ≡ last_of (list_of old c)
last_some n s c x old view rings end_old is above =
    let number = ap (λ (t : KeyTable). t.number) view in
    let end : c < n = omega arith in
    ap (λ y. Some (y - n)) is ∙ (last_at (newer_of s) (older_of s) n (length s) c (keys_of n s c) end (rings.ring c end) (subst (λ y. n ≤ y) is above)
    ∙ ap last_of (sym (list_is n s c end) ∙ ap (λ t. list_of t c) view))

pub first_none : (n : ℕ) (s : List Link) (c x : ℕ) (old : KeyTable) → table_of n s ≡ old → IsRings n s → c < old.number → x ≡ newer_of s c → x < n → None ≡ first_key (list_of old c)
first_none n s c x old view rings end_old is below =
    let number = ap (λ (t : KeyTable). t.number) view in
    let end : c < n = omega arith in
    first_is (newer_of s) (older_of s) n (length s) c (keys_of n s c) end (rings.ring c end) (subst (λ y. y < n) is below)
    ∙ ap first_key (sym (list_is n s c end) ∙ ap (λ t. list_of t c) view)

pub first_some : (n : ℕ) (s : List Link) (c x : ℕ) (old : KeyTable) → table_of n s ≡ old → IsRings n s → c < old.number → x ≡ newer_of s c → n ≤ x → Some (x - n) ≡ first_key (list_of old c)
first_some n s c x old view rings end_old is above =
    let number = ap (λ (t : KeyTable). t.number) view in
    let end : c < n = omega arith in
    ap (λ y. Some (y - n)) is ∙ (first_at (newer_of s) (older_of s) n (length s) c (keys_of n s c) end (rings.ring c end) (subst (λ y. n ≤ y) is above)
    ∙ ap first_key (sym (list_is n s c end) ∙ ap (λ t. list_of t c) view))

pub older_none : (n : ℕ) (s : List Link) (key x : ℕ) (old : KeyTable) → table_of n s ≡ old → IsRings n s → x ≡ older_of s (n + key) → x < n
    → (c : ℕ) (front back : List ℕ) → c < old.number → list_of old c ≡ front ++ key ∷ back → None ≡ last_of front
older_none n s key x old view rings is below c front back end_old split =
    let number = ap (λ (t : KeyTable). t.number) view in
    let end : c < n = omega arith in
    let keys = sym (list_is n s c end) ∙ (ap (λ t. list_of t c) view ∙ split) in
    before_none (newer_of s) (older_of s) n (length s) c key front back end (subst (IsPath (newer_of s) (older_of s) n (length s) c c) keys (rings.ring c end)) (subst (λ y. y < n) is below)

pub older_some : (n : ℕ) (s : List Link) (key x : ℕ) (old : KeyTable) → table_of n s ≡ old → IsRings n s → x ≡ older_of s (n + key) → n ≤ x
    → (c : ℕ) (front back : List ℕ) → c < old.number → list_of old c ≡ front ++ key ∷ back → Some (x - n) ≡ last_of front
older_some n s key x old view rings is above c front back end_old split =
    let number = ap (λ (t : KeyTable). t.number) view in
    let end : c < n = omega arith in
    let keys = sym (list_is n s c end) ∙ (ap (λ t. list_of t c) view ∙ split) in
    ap (λ y. Some (y - n)) is
    ∙ before_some (newer_of s) (older_of s) n (length s) c key front back end (subst (IsPath (newer_of s) (older_of s) n (length s) c c) keys (rings.ring c end)) (subst (λ y. n ≤ y) is above)
