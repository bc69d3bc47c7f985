-- a line without fault, test by test
use Rattle.std.proofs.Common.{◌≡◌, ℕ, Bool, true, false, ◌&&◌, List, map, Some, is_some, Ok, refl, sym, ◌∙◌}
use Rattle.std.proofs.lemmas.Bool.{and_parts, and_from}
use Rattle.text_words.specs.Numbers.{value_of}
use Rattle.tm_script.specs.declared.known.Command.{Command}
use Rattle.tm_script.specs.declared.known.Known.{Known}
use Rattle.tm_script.specs.declared.known.Said.{Said}
use Rattle.tm_script.specs.Judge.{may_stand, slots, all_pass, is_choice, is_spelled, is_within, is_machine, is_in_order, is_in_room, kind_behind}
use Rattle.tm_script.specs.Faults.{said_behind, heard_behind}
use Rattle.tm_script.proofs.Bridge.{in_a_row, tested, settled}

pub record Passes (k : Known) (c : Command) (ws : List (List ℕ)) : Type 0 where
  pub stands : may_stand k.place (is_some k.last) c ≡ true
  pub choice : all_pass is_choice (slots k c ws) ws ≡ true
  pub spelled : all_pass is_spelled (slots k c ws) ws ≡ true
  pub inside : all_pass is_within (slots k c ws) ws ≡ true
  pub machine : is_machine k c (map value_of ws) ≡ true
  pub order : is_in_order k c (map value_of ws) ≡ true
  pub room : is_in_room k c ≡ true

passes_row : (a b c d e : Bool) (s x : Said) → tested a b c (settled d e s) ≡ Ok x → (a ≡ true) × (b ≡ true) × (c ≡ true) × (d ≡ true) × (e ≡ true) × (s ≡ x)
passes_row false b c d e s x h = absurd cc
passes_row true false c d e s x h = absurd cc
passes_row true true false d e s x h = absurd cc
passes_row true true true false e s x h = absurd cc
passes_row true true true true false s x h = absurd cc
passes_row true true true true true s x h = (refl, refl, refl, refl, refl, cc)

row_passes : (a b c d e : Bool) (s : Said) → a ≡ true → b ≡ true → c ≡ true → d ≡ true → e ≡ true → tested a b c (settled d e s) ≡ Ok s
row_passes a b c d e s pa pb pc pd pe = λ i. tested (pa i) (pb i) (pc i) (settled (pd i) (pe i) s)

pub passes_found : (k : Known) (c : Command) (ws : List (List ℕ)) (said : Said) → heard_behind k (Some c) ws ≡ Ok said → Passes k c ws × (said_behind c ws ≡ said)
unfolding kind_behind
passes_found k c ws said e =
    let row = passes_row (may_stand k.place (is_some k.last) c && all_pass is_choice (slots k c ws) ws) _ _ _ _ (said_behind c ws) said
    (sym (in_a_row (may_stand k.place (is_some k.last) c && all_pass is_choice (slots k c ws) ws) (all_pass is_spelled (slots k c ws) ws) (all_pass is_within (slots k c ws) ws && is_machine k c (map value_of ws)) (is_in_order k c (map value_of ws)) (is_in_room k c) (said_behind c ws)) ∙ e) in
    let first = and_parts _ _ row.0 in
    let third = and_parts _ _ row.2 in
    (record { stands = first.0; choice = first.1; spelled = row.1; inside = third.0; machine = third.1; order = row.3; room = row.4 }, row.5)

pub passes_again : (k : Known) (c : Command) (ws : List (List ℕ)) → Passes k c ws → heard_behind k (Some c) ws ≡ Ok (said_behind c ws)
unfolding kind_behind
passes_again k c ws p =
    in_a_row (may_stand k.place (is_some k.last) c && all_pass is_choice (slots k c ws) ws) (all_pass is_spelled (slots k c ws) ws) (all_pass is_within (slots k c ws) ws && is_machine k c (map value_of ws)) (is_in_order k c (map value_of ws)) (is_in_room k c) (said_behind c ws)
    ∙ row_passes _ _ _ _ _ (said_behind c ws) (and_from _ _ p.stands p.choice) p.spelled (and_from _ _ p.inside p.machine) p.order p.room
