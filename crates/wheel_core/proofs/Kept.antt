-- what the base of one list keeps, as an item comes or goes
use Rattle.std.proofs.Common.{◌≡◌, ℕ, ◌<◌, ◌≤◌, List, [], ◌∷◌, ◌++◌, Option, Some, None}
use Rattle.std.proofs.Common.{length, get_or, refl, sym, ap, subst, ◌∙◌, arith, length-append}
use Rattle.std.specs.List.{remove}
use Rattle.std.proofs.lemmas.List.Edits.{length-remove}
use Rattle.wheel_core.specs.declared.item.Item.{Item}
use Rattle.wheel_core.specs.PlainBase.{item_of, least, out_at, sooner, without, FitsWheel, IsSound}
use Rattle.wheel_core.specs.ListBase.{KeepsList}
use Rattle.wheel_core.specs.declared.scan.Scan.{Scan}
use Rattle.wheel_core.specs.Scan.{IsNext, IsNextAt}
use Rattle.std.proofs.lemmas.Option.{MatchOption-at_some, slice_get_read}
use Rattle.wheel_core.proofs.Ids.{one_place, read_at, sound_push, sound_without}
use Rattle.wheel_core.proofs.Leasts.{least_push, least_remove}

pub keeps_added : (items more : List Item) (item : Item) (first : Option ℕ)
    (sooner_is promised had larger : ℕ) → KeepsList items first promised had
    → more ≡ items ++ item ∷ [] → length items < promised → had ≤ larger
    → sooner_is ≡ sooner item.wheel first → item_of item.id items ≡ None → FitsWheel item
    → KeepsList more (Some sooner_is) promised larger
keeps_added items more item first sooner_is promised had larger keeps is room grows first_is none placed =
    let known = keeps.known in
    let room_was = keeps.room in
    record {
      known =
          ap Some first_is ∙ (ap (λ o. Some (sooner item.wheel o)) known
          ∙ (sym (least_push items item) ∙ sym (ap least is)));
      fits = let longer = ap length is ∙ length-append items (item ∷ []) in omega arith;
      room = omega arith;
      sound = subst IsSound (sym is) (sound_push items item keeps.sound none placed);
    }

pub keeps_removed : (items rest : List Item) (place id : ℕ) (first first_is : Option ℕ)
    (promised had same : ℕ) → KeepsList items first promised had → place < length items
    → rest ≡ remove items place → remove items place ≡ without id items
    → first_is ≡ least rest → same ≡ had → KeepsList rest first_is promised same
keeps_removed items rest place id first first_is promised had same keeps within is gone first_known stays =
    let fitted = keeps.fits in
    let room_was = keeps.room in
    record {
      known = first_known;
      fits =
          let shorter = length-remove items place within in
          let long = ap length is in
          omega arith;
      room = omega arith;
      sound = subst IsSound (sym (is ∙ gone)) (sound_without id items keeps.sound);
    }

-- the least expiry before an item was taken out of its place
pub first_was : (items rest : List Item) (place : ℕ) (item : Item) (first : Option ℕ)
    (promised had : ℕ) → KeepsList items first promised had → place < length items
    → item ≡ get_or items place item → rest ≡ remove items place
    → first ≡ Some (sooner item.wheel (least rest))
first_was items rest place item first promised had keeps within is left =
    keeps.known ∙ (least_remove items place item within
    ∙ (ap (λ i. Some (sooner i.wheel (least (remove items place)))) (sym is)
    ∙ ap (λ r. Some (sooner item.wheel (least r))) (sym left)))

-- what the place of the next item says of it
pub record TakesOut (now : ℕ) (items : List Item) (others : Option ℕ) (place : ℕ) (item : Item) : Type 0 where
  pub within : place < length items
  pub left : others ≡ least (remove items place)
  pub out : Some item ≡ out_at now (least items) items
  pub gone : remove items place ≡ without item.id items

pub takes_out : (now : ℕ) (items seen : List Item) (scan : Scan) (place : ℕ) (item : Item)
    → IsNext now seen scan → seen ≡ items
    → scan.out ≡ Some place → IsSound items → item ≡ get_or items place item
    → TakesOut now items scan.others place item
takes_out now items seen scan place item next same found sound is =
    let at = MatchOption-at_some (out_at now (least items) items ≡ None) (IsNextAt now items scan.others) place found (subst (λ items. IsNext now items scan) same next) in
    record {
      within = at.within;
      left = at.left;
      out = read_at items place item (out_at now (least items) items) at.within is at.out;
      gone = one_place items place item sound.distinct (slice_get_read items (length items) place item refl at.within is);
    }
