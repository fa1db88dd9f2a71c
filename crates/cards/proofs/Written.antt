-- The words of what is held, as they are written one after another. Assumes nothing.
use Rattle.std.proofs.Common.{◌≡◌, ℕ, ◌+◌, ◌^◌, ◌<◌, List, [], ◌∷◌, ◌++◌, map, length, sym, refl, ap, ◌∙◌, subst, append-nil, append_assoc, arith, length-append}
use mathlib.Core.List.{Memᴰ}
use lib.ListN.{length-map}
use Rattle.lts.specs.Sets.{members}
use Rattle.lts.proofs.Lowest.{lists}
use Rattle.lts.proofs.Membership.{members_below}
use Rattle.cards.specs.Contents.{Contents, written}
use Rattle.cards.specs.Words.{line_word, passing_word, end_word}

-- what a walk over the members of a set comes to next, where these have come
module _ (s rest next q : ℕ) (come : List ℕ) (h : s < 2 ^ 64) (inv : members s ≡ come ++ members rest) (step : members rest ≡ q ∷ members next) where
  come_on : members s ≡ come ++ (q ∷ members next)
  come_on = inv ∙ ap (λ (r : List ℕ). come ++ r) step

  pub come_more : members s ≡ (come ++ (q ∷ [])) ++ members next
  come_more = come_on ∙ sym (append_assoc come (q ∷ []) (members next))

  pub come_below : q < 64
  come_below =
      let m : Memᴰ q (members s) = subst (Memᴰ q) (sym come_on) (mathlib.Core.List.Memᴰ.append_right come (mathlib.Core.List.Memᴰ.head refl)) in
      members_below 64 s q h (((lists 64 s h).exact q).0 m)

  pub come_room : length come < length (members s)
  come_room = omega (arith, ap length come_on, length-append come (q ∷ members next))

-- and when none is left, all have come
pub come_all : (s rest : ℕ) (come : List ℕ) → members s ≡ come ++ members rest → members rest ≡ [] → come ≡ members s
come_all s rest come inv none = sym (inv ∙ ap (λ (r : List ℕ). come ++ r) none ∙ append-nil come)

pub written_length : (c : Contents) → length (written c) ≡ 1 + length c.lines + length (members c.passing) + 1
unfolding written
written_length c =
    let ls = map line_word c.lines in
    let ps = map passing_word (members c.passing) in
    omega (arith, length-append ls (ps ++ (end_word ∷ [])), length-append ps (end_word ∷ []), length-map c.lines line_word, length-map (members c.passing) passing_word)
