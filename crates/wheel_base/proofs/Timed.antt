-- the wheel's invariant in time, as an item comes or goes
use Rattle.std.proofs.Common.{◌≡◌, ℕ, ◌+◌, ◌-◌, ◌*◌, ◌%◌, ◌^◌, ◌<◌, ◌≤◌, List, [], ◌∷◌, ◌++◌, length, Option, Some, None, refl, ap, ◌∙◌, sym, subst, inl, inr, arith, length-append}
use Rattle.std.specs.Prelude.{◌==◌, ◌⊎◌}
use Rattle.std.specs.Option.{ForSome}
use Rattle.std.proofs.lemmas.Bool.{cases_lt, cases_eq, cases_Bool, eq-eqb, ne_eqb, eqb-true, eqb-false, cond-true, cond-false}
use Rattle.std.proofs.lemmas.Bool.Decides.{nat_tests}
use Rattle.std.proofs.lemmas.List.{map-append}
use Rattle.wheel_core.specs.declared.item.Item.{Item}
use Rattle.wheel_core.specs.WheelExpiry.{cutoff, granularity, granule_end, greatest_timeout, level_of_delay, wheel_expiry_of, wheel_level_of}
use Rattle.wheel_core.specs.PlainBase.{HasDistinctIds, FitsWheel, IsSound, item_of, least, sooner, without}
use Rattle.wheel_core.proofs.Levels.{ends, level_fits, row, row_level}
use Rattle.wheel_core.proofs.Leasts.{least_push, sooner_swap}
use Rattle.wheel_core.proofs.Ids.{sound_push, sound_without}
use Rattle.wheel_base.specs.Files.{Entry, Files, HasKey, IsKeyOf, IsStored, item_under, items_of, without_key}
use Rattle.wheel_base.specs.Marks.{Among, AreNear, IsNear}
use Rattle.wheel_base.specs.Wheels.{KeepsWheel}
use Rattle.wheel_base.proofs.Granules.{delay_below, granule_ends}
use Rattle.wheel_base.proofs.Marked.{least_among, least_under, none_least}
use Rattle.wheel_base.proofs.GoingOut.{near_least}
use Rattle.std.specs.List.{All}
use Rattle.std.proofs.lemmas.List.Elements.{All-head, All-tail}
use Rattle.std.proofs.lemmas.Option.{none-some, same_Some}

-- where a timer's wheel expiry lies
pub record Placed (clock wheel level : ℕ) : Type 0 where
  pub level_in : level < 9
  pub granule : wheel % granularity level ≡ 0
  pub from : clock ≤ wheel
  pub near : wheel < clock + 64 * granularity level

past : (expires clock : ℕ) → expires < clock → (wheel_expiry_of expires clock ≡ clock) × (wheel_level_of expires clock ≡ 0)
unfolding wheel_expiry_of wheel_level_of
past expires clock behind = (grind (arith, nat_tests), grind (arith, nat_tests))

far_level : (delta : ℕ) → cutoff ≤ delta → level_of_delay delta ≡ 8
unfolding level_of_delay
far_level delta far = grind (arith, nat_tests)

far_off : (expires clock : ℕ) → clock ≤ expires → cutoff ≤ expires - clock
    → (wheel_expiry_of expires clock ≡ granule_end 8 (clock + greatest_timeout)) × (wheel_level_of expires clock ≡ 8)
unfolding wheel_expiry_of
far_off expires clock ahead far = (grind (arith, nat_tests), row_level expires clock ahead ∙ far_level (expires - clock) far)

pub placed_near : (expires clock : ℕ) → expires < 2 ^ 47 → clock < 2 ^ 47 → Placed clock (wheel_expiry_of expires clock) (wheel_level_of expires clock)
placed_near expires clock e_in c_in =
    elim (cases_lt expires clock) [
      | inl behind ↦
          let is = past expires clock behind in
          rw (is.0, is.1) (record { level_in = omega arith; granule = omega arith; from = omega arith; near = omega arith })
      | inr ahead ↦ elim (cases_lt (expires - clock) cutoff) [
        | inl close ↦
            let delta = expires - clock in
            let level = level_of_delay delta in
            let fits = level_fits delta in
            let end = ends level expires fits.0 e_in in
            let few = delay_below delta close in
            rw (row expires clock ahead close, row_level expires clock ahead)
            (record { level_in = fits.0; granule = granule_ends level expires fits.0; from = omega (arith, end.past); near = omega (arith, end.near, few) })
        | inr far ↦
            let is = far_off expires clock ahead far in
            rw (is.0, is.1) (record { level_in = omega arith; granule = omega arith; from = omega arith; near = omega arith })
      ]
    ]

among_push : (e x : Entry) (filed : List Entry) → Among e (filed ++ x ∷ []) → Among e filed ⊎ (x ≡ e)
among_push e x [] (inl here) = inr here
among_push e x [] (inr later) = absurd later
among_push e x (first ∷ filed) (inl here) = inl (inl here)
among_push e x (first ∷ filed) (inr later) =
    elim (among_push e x filed later) [ inl old ↦ inl (inr old) | inr new ↦ inr new ]

floor_is : (clock : ℕ) (first : Option ℕ) → ForSome first (λ wheel. clock ≤ wheel) → sooner clock first ≡ clock
floor_is clock None behind = refl
floor_is clock (Some wheel) behind = let h : clock ≤ wheel = behind wheel refl in omega arith

floor_now : (clock wheel : ℕ) (first : Option ℕ) → clock ≤ wheel → ForSome first (λ wheel. clock ≤ wheel) → sooner clock (Some (sooner wheel first)) ≡ clock
floor_now clock wheel None at behind = omega arith
floor_now clock wheel (Some other) at behind = let h : clock ≤ other = behind other refl in omega arith

pub keeps_added : (files new : Files) (key : ℕ) (item : Item) (clock : ℕ) (first : Option ℕ) (sooner_is capacity : ℕ) → KeepsWheel files clock first capacity
    → new.filed ≡ files.filed ++ (key, item) ∷ [] → new.room ≡ files.room → length files.filed < capacity → sooner_is ≡ sooner item.wheel first
    → item_of item.id (items_of files.filed) ≡ None → FitsWheel item → ForSome (least (items_of files.filed)) (λ wheel. clock ≤ wheel)
    → Placed clock item.wheel item.level → KeepsWheel new clock (Some sooner_is) capacity
keeps_added files new key item clock first sooner_is capacity keeps filed rooms room first_is none placed behind_least at =
    let items : items_of new.filed ≡ items_of files.filed ++ item ∷ [] = ap items_of filed ∙ map-append (λ (e : Entry). e.1) files.filed ((key, item) ∷ []) in
    let known = keeps.known in
    let behind : ForSome first (λ wheel. clock ≤ wheel) = subst (λ o. ForSome o (λ wheel. clock ≤ wheel)) (sym known) behind_least in
    let floor_was = floor_is clock first behind in
    let floor : sooner clock (Some sooner_is) ≡ clock = ap (λ s. sooner clock (Some s)) first_is ∙ floor_now clock item.wheel first at.from behind in
    record {
      known = ap Some first_is ∙ (ap (λ o. Some (sooner item.wheel o)) known ∙ (sym (least_push (items_of files.filed) item) ∙ sym (ap least items)));
      sound = subst IsSound (sym items) (sound_push (items_of files.filed) item keeps.sound none placed);
      near = λ e among.
          subst (λ time. IsNear time e.1) (sym floor)
          (elim (among_push e (key, item) files.filed (subst (Among e) filed among)) [
            | inl old ↦ subst (λ time. IsNear time e.1) floor_was (keeps.near e old)
            | inr now ↦ subst (λ (x : Entry). IsNear clock x.1) now (record { level = at.level_in; granule = at.granule; from = at.from; near = at.near })
          ]);
      few = let longer = ap (length {A = Entry}) filed ∙ length-append files.filed ((key, item) ∷ []) in omega arith;
      room = let room = keeps.room in omega arith;
      fits = let fits = keeps.fits in omega arith;
    }

-- AN ITEM GOES
among_without : (e : Entry) (key : ℕ) (filed : List Entry) → Among e (without_key key filed) → Among e filed
among_without e key [] among = among
among_without e key (first ∷ filed) among =
    elim (cases_Bool (first.0 == key)) [
      | inl here ↦ inr (subst (Among e) (cond-true (first.0 == key) filed (first ∷ without_key key filed) here) among)
      | inr other ↦
          let inside : Among e (first ∷ without_key key filed) = subst (Among e) (cond-false (first.0 == key) filed (first ∷ without_key key filed) other) among in
          elim inside [ inl here ↦ inl here | inr later ↦ inr (among_without e key filed later) ]
    ]

length_without_key : (key : ℕ) (filed : List Entry) → HasKey key filed → length (without_key key filed) + 1 ≡ length filed
length_without_key key [] has = absurd has
length_without_key key (first ∷ filed) has =
    elim (cases_eq first.0 key) [
      | inl here ↦ let is = ap (length {A = Entry}) (cond-true (first.0 == key) filed (first ∷ without_key key filed) (eq-eqb first.0 key here)) in omega arith
      | inr other ↦
          let is = ap (length {A = Entry}) (cond-false (first.0 == key) filed (first ∷ without_key key filed) (ne_eqb first.0 key other)) in
          let rest = length_without_key key filed (elim has [ inl here ↦ absurd (other here) | inr later ↦ later ]) in omega arith
    ]

-- an id that no item has isn't that of an item
absent : (id key : ℕ) (item : Item) (filed : List Entry) → item_of id (items_of filed) ≡ None → item_under key filed ≡ Some item → (item.id ≡ id → ⊥)
absent id key item [] none found same = none-some item found
absent id key item (first ∷ filed) none found same =
    elim (cases_Bool (first.1.id == id)) [
      | inl here ↦ none-some first.1 (sym none ∙ cond-true (first.1.id == id) (Some first.1) (item_of id (items_of filed)) here)
      | inr other ↦
          let rest = sym (cond-false (first.1.id == id) (Some first.1) (item_of id (items_of filed)) other) ∙ none in
          elim (cases_Bool (first.0 == key)) [
            | inl this ↦
                let is = same_Some first.1 item (sym (cond-true (first.0 == key) (Some first.1) (item_under key filed) this) ∙ found) in
                eqb-false first.1.id id other (ap (λ (x : Item). x.id) is ∙ same)
            | inr that ↦ absent id key item filed rest (sym (cond-false (first.0 == key) (Some first.1) (item_under key filed) that) ∙ found) same
          ]
    ]

pub items_without : (key : ℕ) (item : Item) (filed : List Entry) → HasDistinctIds (items_of filed) → item_under key filed ≡ Some item
    → items_of (without_key key filed) ≡ without item.id (items_of filed)
items_without key item [] distinct found = absurd (none-some item found)
items_without key item (first ∷ filed) distinct found =
    let items = items_of filed in
    elim (cases_Bool (first.0 == key)) [
      | inl here ↦
          let is = same_Some first.1 item (sym (cond-true (first.0 == key) (Some first.1) (item_under key filed) here) ∙ found) in
          ap items_of (cond-true (first.0 == key) filed (first ∷ without_key key filed) here)
          ∙ sym (cond-true (first.1.id == item.id) items (first.1 ∷ without item.id items) (eq-eqb first.1.id item.id (ap (λ (x : Item). x.id) is)))
      | inr other ↦
          let later = sym (cond-false (first.0 == key) (Some first.1) (item_under key filed) other) ∙ found in
          let apart : first.1.id ≡ item.id → ⊥ = λ same. absent first.1.id key item filed distinct.0 later (sym same) in
          ap items_of (cond-false (first.0 == key) filed (first ∷ without_key key filed) other)
          ∙ (ap (λ (r : List Item). first.1 ∷ r) (items_without key item filed distinct.1 later)
          ∙ sym (cond-false (first.1.id == item.id) items (first.1 ∷ without item.id items) (ne_eqb first.1.id item.id apart)))
    ]

-- what is left after the item of an id's key went
pub items_removed : (id key : ℕ) (item : Item) (files new : Files) → IsSound (items_of files.filed) → IsKeyOf id files.filed key
    → Some item ≡ item_under key files.filed → new.filed ≡ without_key key files.filed → items_of new.filed ≡ without id (items_of files.filed)
items_removed id key item files new sound found taken gone =
    let same = same_Some item found.item (taken ∙ found.stored.under) in
    let id_is = ap (λ (x : Item). x.id) same ∙ found.id_is in
    ap items_of gone
    ∙ (items_without key item files.filed sound.distinct (sym taken) ∙ ap (λ id. without id (items_of files.filed)) id_is)

some_least : (e : Entry) (filed : List Entry) → Among e filed → (wheel : ℕ) × (least (items_of filed) ≡ Some wheel)
some_least e [] among = absurd among
some_least e (first ∷ filed) among = (sooner first.1.wheel (least (items_of filed)), refl)

pub keeps_taken : (files new : Files) (key : ℕ) (item : Item) (clock clock_now : ℕ) (first first_now : Option ℕ) (capacity : ℕ) → KeepsWheel files clock first capacity
    → IsStored files.filed (key, item) → new.filed ≡ without_key key files.filed → new.room ≡ files.room → first_now ≡ least (items_of new.filed) → clock ≤ clock_now
    → KeepsWheel new clock_now first_now capacity
keeps_taken files new key item clock clock_now first first_now capacity keeps stored filed rooms known_now later =
    let items = ap items_of filed ∙ items_without key item files.filed keeps.sound.distinct stored.under in
    let room = keeps.room in
    let fits = keeps.fits in
    record {
      known = known_now;
      sound = subst IsSound (sym items) (sound_without item.id (items_of files.filed) keeps.sound);
      near = λ e among.
          let inside : (e : Entry) → Among e new.filed → Among e files.filed = λ e among. among_without e key files.filed (subst (Among e) filed among) in
          let was = some_least e files.filed (inside e among) in
          let now = some_least e new.filed among in
          let at = subst (λ first. IsNear (sooner clock first) e.1) (keeps.known ∙ was.1) (keeps.near e (inside e among)) in
          let sooner_now = least_among new.filed now.0 now.1 in
          let under = least_under files.filed was.0 sooner_now.0 was.1 (inside sooner_now.0 sooner_now.1) in
          let below = least_under new.filed now.0 e now.1 among in
          let at_now = sooner_now.2 in
          let upper = at.near in
          subst (λ first. IsNear (sooner clock_now first) e.1) (sym (known_now ∙ now.1))
          (record { level = at.level; granule = at.granule; from = omega arith; near = omega arith });
      few = let few = keeps.few in let shorter = ap (length {A = Entry}) filed in let by_one = length_without_key key files.filed stored.has in omega arith;
      room = omega arith;
      fits = omega arith;
    }

pub near_taken : (files new : Files) (key : ℕ) (item : Item) (clock : ℕ) (first : Option ℕ) (capacity : ℕ) → KeepsWheel files clock first capacity
    → new.filed ≡ without_key key files.filed → least (items_of files.filed) ≡ Some item.wheel → AreNear item.wheel new.filed
near_taken files new key item clock first capacity keeps filed is e among =
    near_least clock item.wheel files.filed is (subst (λ first. AreNear (sooner clock first) files.filed) (keeps.known ∙ is) keeps.near) e
    (among_without e key files.filed (subst (Among e) filed among))

all_among : (P : Item → Type 0) (e : Entry) (filed : List Entry) → All P (items_of filed) → Among e filed → P e.1
all_among P e [] all among = absurd among
all_among P e (first ∷ filed) all (inl here) = subst (λ (x : Entry). P x.1) here (All-head P first.1 (items_of filed) all)
all_among P e (first ∷ filed) all (inr later) = all_among P e filed (All-tail P first.1 (items_of filed) all) later

pub wheel_in_time : (files : Files) (wheel clock : ℕ) (first : Option ℕ) (capacity : ℕ) → KeepsWheel files clock first capacity → least (items_of files.filed) ≡ Some wheel → wheel ≤ 2 ^ 47
wheel_in_time files wheel clock first capacity keeps is =
    let e = least_among files.filed wheel is in
    let placed = all_among FitsWheel e.0 files.filed keeps.sound.in_wheel e.1 in
    let at = e.2 in omega (arith, placed.wheel)

pub item_of_stored : (key : ℕ) (item : Item) (filed : List Entry) → HasDistinctIds (items_of filed) → item_under key filed ≡ Some item → item_of item.id (items_of filed) ≡ Some item
item_of_stored key item [] distinct found = absurd (none-some item found)
item_of_stored key item (first ∷ filed) distinct found =
    elim (cases_Bool (first.0 == key)) [
      | inl here ↦
          let is = same_Some first.1 item (sym (cond-true (first.0 == key) (Some first.1) (item_under key filed) here) ∙ found) in
          cond-true (first.1.id == item.id) (Some first.1) (item_of item.id (items_of filed)) (eq-eqb first.1.id item.id (ap (λ (x : Item). x.id) is)) ∙ ap Some is
      | inr other ↦
          let later = sym (cond-false (first.0 == key) (Some first.1) (item_under key filed) other) ∙ found in
          let apart : first.1.id ≡ item.id → ⊥ = λ same. absent first.1.id key item filed distinct.0 later (sym same) in
          cond-false (first.1.id == item.id) (Some first.1) (item_of item.id (items_of filed)) (ne_eqb first.1.id item.id apart) ∙ item_of_stored key item filed distinct.1 later
    ]

-- a stored item is among the entries
pub among_stored : (key : ℕ) (item : Item) (filed : List Entry) → item_under key filed ≡ Some item → Among (key, item) filed
among_stored key item [] found = absurd (none-some item found)
among_stored key item (first ∷ filed) found =
    elim (cases_Bool (first.0 == key)) [
      | inl here ↦
          let is = same_Some first.1 item (sym (cond-true (first.0 == key) (Some first.1) (item_under key filed) here) ∙ found) in
          let key_is = eqb-true first.0 key here in
          inl (λ i. (key_is i, is i))
      | inr other ↦ inr (among_stored key item filed (sym (cond-false (first.0 == key) (Some first.1) (item_under key filed) other) ∙ found))
    ]

pub near_stored : (files : Files) (key : ℕ) (item : Item) (clock : ℕ) (first : Option ℕ) (capacity : ℕ) → KeepsWheel files clock first capacity
    → item_under key files.filed ≡ Some item → IsNear (sooner clock first) item
near_stored files key item clock first capacity keeps found = keeps.near (key, item) (among_stored key item files.filed found)

pub near_forwarded : (clock now : ℕ) (first : Option ℕ) (filed : List Entry) → clock < now → first ≡ least (items_of filed) → AreNear (sooner clock first) filed
    → AreNear (sooner (sooner now first) first) filed
near_forwarded clock now None filed behind known near e among = absurd (none_least e filed among (sym known))
near_forwarded clock now (Some wheel) filed behind known near e among =
    let at = near e among in
    let under = least_under filed wheel e (sym known) among in
    let upper = at.near in
    record { level = at.level; granule = at.granule; from = omega arith; near = omega arith }

pub least_taken : (key : ℕ) (item : Item) (filed : List Entry) → item_under key filed ≡ Some item
    → least (items_of filed) ≡ Some (sooner item.wheel (least (items_of (without_key key filed))))
least_taken key item [] found = absurd (none-some item found)
least_taken key item (first ∷ filed) found =
    elim (cases_Bool (first.0 == key)) [
      | inl here ↦
          let is = same_Some first.1 item (sym (cond-true (first.0 == key) (Some first.1) (item_under key filed) here) ∙ found) in
          let rest = ap (λ r. least (items_of r)) (cond-true (first.0 == key) filed (first ∷ without_key key filed) here) in
          (λ i. Some (sooner (is i).wheel (sym rest i)))
      | inr other ↦
          let later = sym (cond-false (first.0 == key) (Some first.1) (item_under key filed) other) ∙ found in
          let rest = ap (λ r. least (items_of r)) (cond-false (first.0 == key) filed (first ∷ without_key key filed) other) in
          ap (λ l. Some (sooner first.1.wheel l)) (least_taken key item filed later)
          ∙ (ap Some (sooner_swap first.1.wheel item.wheel (least (items_of (without_key key filed)))) ∙ ap (λ l. Some (sooner item.wheel l)) (sym rest))
    ]

pub placed_stored : (key : ℕ) (item : Item) (filed : List Entry) → All FitsWheel (items_of filed) → item_under key filed ≡ Some item → FitsWheel item
placed_stored key item [] all found = absurd (none-some item found)
placed_stored key item (first ∷ filed) all found =
    elim (cases_Bool (first.0 == key)) [
      | inl here ↦
          let is = same_Some first.1 item (sym (cond-true (first.0 == key) (Some first.1) (item_under key filed) here) ∙ found) in
          subst FitsWheel is (All-head FitsWheel first.1 (items_of filed) all)
      | inr other ↦
          placed_stored key item filed (All-tail FitsWheel first.1 (items_of filed) all) (sym (cond-false (first.0 == key) (Some first.1) (item_under key filed) other) ∙ found)
    ]
