-- Writing what was read gives the words back, and reading what was written gives the card back. Assumes nothing.
use Rattle.std.specs.Prelude.{◌≡◌, ℕ, ◌*◌, ◌^◌, ◌<◌, ◌≤◌, Bool, true, false, cond, ◌&&◌, List, [], ◌∷◌, ◌++◌, map, length, None, Ok, Err, Result, ◌==◌, nat_eq, nat_le, nat_lt, refl}
use Rattle.std.proofs.Math.Path.{sym, ap, ap₂, subst}
use Rattle.std.proofs.Common.{◌∙◌, arith, pow_mono}
use mathlib.Core.List.{Memᴰ}
use borrow.Author.Tests.{eqb-true, lt-ltb, ltb-true, le-leb, leb-true}
use Rattle.std.proofs.lemmas.Nat.{pow_pos}
use Rattle.lts.specs.Sets.{Above, Ascending, Lists, members}
use Rattle.lts.proofs.Membership.{same_members, members_below}
use Rattle.lts.proofs.Lowest.{lists, members_none}
use Rattle.cards.specs.declared.faults.WordFault.{WordFault}
use Rattle.cards.specs.declared.lines.Head.{Head}
use Rattle.cards.specs.declared.lines.Label.{Label}
use Rattle.cards.specs.declared.lines.Label.TheVariants.{Action, Silent}
use Rattle.cards.specs.declared.lines.Line.{Line as LineT}
use Rattle.cards.specs.declared.lines.Progress.{Progress}
use Rattle.cards.specs.declared.lines.Progress.TheVariants.{Inside}
use Rattle.cards.specs.declared.lines.Role.{Role}
use Rattle.cards.specs.declared.lines.Role.TheVariants.{Card, Test}
use Rattle.cards.specs.declared.lines.Word.{Word}
use Rattle.cards.specs.declared.lines.Word.TheVariants.{Line, Passing, End}
use Rattle.cards.specs.Contents.{Contents, written, with_all, contents_of, held, read_words}
use Rattle.cards.specs.Lines.{line_fits, lines_fit, rising}
use Rattle.cards.specs.declared.faults.Reason.TheVariants.{Kind, Range}
use Rattle.cards.specs.Reading.{head_of, head_fits, checked_head, begun, at_place, and_then, check_from, check, lines_in, passing_in}
use Rattle.cards.specs.Words.{bits, kind, line_word, head_word, passing_word, end_word, encode, decode, is_test}
use Rattle.cards.proofs.Accepted.{Good, known, accepted, accepts, clash}
use Rattle.cards.proofs.Parts.{PartFits}
use Rattle.cards.proofs.Passing.{with_below, with_exact, members_with, below_wider}
use Rattle.cards.proofs.Sorted.{lines_of, passing_of, Below, rising_weaker, line_low, lines_in_lem, passing_in_lem, lines_counted, lines_fit_lem, lines_rise, in_order, passing_ascends, passing_below, card_passes_none}
use Rattle.cards.specs.Meant.{both, fits}

-- a head's numbers are in range
pub record Sized (h : Head) : Type 0 where
  pub some : 1 ≤ h.states
  pub most : h.states ≤ 64
  pub starts : h.start < h.states
  pub few : h.lines ≤ 256

sized : (h : Head) → head_fits h ≡ true → Sized h
sized h e =
    let a = both (nat_lt 0 h.states && nat_le h.states 64 && nat_lt h.start h.states) (nat_le h.lines 256) e in
    let b = both (nat_lt 0 h.states && nat_le h.states 64) (nat_lt h.start h.states) a.0 in
    let c = both (nat_lt 0 h.states) (nat_le h.states 64) b.0 in
    record {
      some = ltb-true 0 h.states c.0;
      most = leb-true h.states 64 c.1;
      starts = ltb-true h.start h.states b.1;
      few = leb-true h.lines 256 a.1;
    }

-- a head that was accepted
record Opened (w : ℕ) (h : Head) : Type 0 where
  is : h ≡ head_of w
  first : kind w ≡ 1
  fits : head_fits h ≡ true

opened : (w i : ℕ) (K : Progress → Result Head WordFault) (h' : Head) → and_then K (at_place i (begun w (checked_head w))) ≡ Ok h'
    → (h : Head) × Opened w h × (K (Inside (known h w h.lines)) ≡ Ok h')
opened w i K h' e = by (kind w == 1) refl e
  where
    second : nat_eq (kind w) 1 ≡ true → (b : Bool) → head_fits (head_of w) ≡ b → and_then K (at_place i (begun w (cond b (Ok (head_of w)) (Err Range)))) ≡ Ok h'
        → (h : Head) × Opened w h × (K (Inside (known h w h.lines)) ≡ Ok h')
    second k true f r = (head_of w, record { is = refl; first = eqb-true (kind w) 1 k; fits = f }, r)
    second k false f r = absurd (clash r)

    by : (b : Bool) → (kind w == 1) ≡ b → and_then K (at_place i (begun w (cond b (cond (head_fits (head_of w)) (Ok (head_of w)) (Err Range)) (Err Kind)))) ≡ Ok h'
        → (h : Head) × Opened w h × (K (Inside (known h w h.lines)) ≡ Ok h')
    by true k r = second k (head_fits (head_of w)) refl r
    by false k r = absurd (clash r)

-- the head word is that of its numbers
head_word_lem : (w : ℕ) → kind w ≡ 1 → head_word (bits w 16 12) (bits w 8 8) (bits w 0 8) ≡ w
head_word_lem w e = omega arith

no_part : (w : ℕ) → kind w ≡ 1 → decode Test w ≡ None
unfolding decode
no_part w e = rw e

-- accepted words: a head and good parts
record Whole (role : Role) (ws : List ℕ) (h : Head) : Type 0 where
  first : ℕ
  parts : List Word
  words : ws ≡ first ∷ map encode parts
  head : Opened first h
  good : Good role h.states first h.lines parts

whole : (role : Role) (ws : List ℕ) (h : Head) → check role ws ≡ Ok h → Whole role ws h
unfolding check_from
whole role [] h e = absurd (clash e)
whole role (w ∷ ws) h e =
    let o = opened w 0 (λ p. check_from role p 1 ws) h e in
    let p = accepted role o.0 w o.0.lines 1 ws h o.2 in
    let q = p.same in
    record {
      first = w;
      parts = p.parts;
      words = ap (λ (vs : List ℕ). w ∷ vs) p.words;
      head = subst (λ (g : Head). Opened w g) q o.1;
      good = subst (λ (g : Head). Good role g.states w g.lines p.parts) q p.good;
    }

module _ (role : Role) (ws : List ℕ) (h : Head) (e : check role ws ≡ Ok h) where
  got : Whole role ws h
  got = whole role ws h e

  lines_are : lines_in ws ≡ lines_of got.parts
  unfolding lines_in
  lines_are =
      ap lines_in got.words
      ∙ (rw (no_part got.first got.head.first) (lines_in_lem role h.states got.first h.lines got.parts got.good))

  passing_are : passing_in ws ≡ passing_of got.parts
  unfolding passing_in
  passing_are =
      ap passing_in got.words
      ∙ (rw (no_part got.first got.head.first) (passing_in_lem role h.states got.first h.lines got.parts got.good))

  pub taken_sized : Sized h
  taken_sized = sized h got.head.fits

  pub taken_counted : length (lines_in ws) ≡ h.lines
  taken_counted = ap length lines_are ∙ lines_counted role h.states got.first h.lines got.parts got.good

  pub taken_fit : lines_fit h.states (lines_in ws) ≡ true
  taken_fit = ap (lines_fit h.states) lines_are ∙ lines_fit_lem role h.states got.first h.lines got.parts got.good

  pub taken_rising : rising 0 (map line_word (lines_in ws)) ≡ true
  taken_rising =
      ap (λ (ls : List LineT). rising 0 (map line_word ls)) lines_are
      ∙ rising_weaker 0 got.first (map line_word (lines_of got.parts)) (omega (arith, got.head.first))
      (lines_rise role h.states got.first h.lines got.parts got.good)

  passing_fit : Below h.states (passing_in ws)
  passing_fit = subst (Below h.states) (sym passing_are) (passing_below role h.states got.first h.lines got.parts got.good)

  passing_rise : Ascending (passing_in ws)
  passing_rise = subst Ascending (sym passing_are) (passing_ascends role h.states got.first h.lines got.parts got.good)

  passing_64 : Below 64 (passing_in ws)
  passing_64 = below_wider h.states 64 (passing_in ws) taken_sized.most passing_fit

  pub taken_passing : with_all 0 (passing_in ws) < 2 ^ h.states
  taken_passing = with_below h.states 0 (passing_in ws) taken_sized.most (pow_pos h.states) passing_fit

  -- writing what was read gives the words back
  pub written_read : written (contents_of ws h) ≡ ws
  unfolding written
  written_read =
      let w : head_word (length (lines_in ws)) h.start h.states ≡ got.first =
      ap (λ (k : ℕ). head_word k h.start h.states) taken_counted ∙ ap (λ (g : Head). head_word g.lines g.start g.states) got.head.is
      ∙ head_word_lem got.first got.head.first in
      let m : members (with_all 0 (passing_in ws)) ≡ passing_of got.parts = members_with (passing_in ws) passing_64 passing_rise ∙ passing_are in
      let t : map line_word (lines_in ws) ++ (map passing_word (members (with_all 0 (passing_in ws))) ++ (end_word ∷ [])) ≡ map encode got.parts =
      ap₂ (λ (ls : List LineT) (qs : List ℕ). map line_word ls ++ (map passing_word qs ++ (end_word ∷ []))) lines_are m
      ∙ sym (in_order role h.states got.first h.lines got.parts got.good) in
      ap₂ (λ (v : ℕ) (vs : List ℕ). v ∷ vs) w t ∙ sym got.words

pub card_none : (ws : List ℕ) (h : Head) → check Card ws ≡ Ok h → with_all 0 (passing_in ws) ≡ 0
unfolding with_all
card_none ws h e =
    let g = got Card ws h e in
    ap (with_all 0) (passing_are Card ws h e ∙ card_passes_none h.states g.first h.lines g.parts g.good)

-- contents as a card or a test holds them
pub record Valid (role : Role) (c : Contents) : Type 0 where
  pub some : 1 ≤ c.states
  pub most : c.states ≤ 64
  pub starts : c.start < c.states
  pub fit : lines_fit c.states c.lines ≡ true
  pub ordered : rising 0 (map line_word c.lines) ≡ true
  pub few : length c.lines ≤ 256
  pub passing : c.passing < 2 ^ c.states
  pub allowed : is_test role ≡ false → c.passing ≡ 0

-- the first passing state, if any, comes after the word b
Past : ℕ → List ℕ → Type 0
Past b [] = Unit {0}
Past b (q ∷ qs) = b < passing_word q

past_next : (q : ℕ) (qs : List ℕ) → Above q qs → Past (passing_word q) qs
unfolding Past
past_next q [] h = tt
past_next q (p ∷ ps) h = omega (arith, h.0)

past_low : (b : ℕ) (qs : List ℕ) → b < 4 * 2 ^ 28 → Past b qs
unfolding Past
past_low b [] h = tt
past_low b (q ∷ qs) h = omega arith

module _ (role : Role) (n : ℕ) (small : n ≤ 64) where
  good_passing : (b : ℕ) (qs : List ℕ) → is_test role ≡ true → Below n qs → Ascending qs → Past b qs → b < end_word
      → Good role n b 0 (map Passing qs ++ (End ∷ []))
  unfolding Good PartFits Past
  good_passing b [] t f a p h = (h, refl)
  good_passing b (q ∷ qs) t f a p h = (
    (omega (arith, f.0), t),
    lt-ltb q n f.0,
    p,
    good_passing (passing_word q) qs t f.1 a.1 (past_next q qs a.0) (omega (arith, f.0)),
  )

  good_none : (b : ℕ) → b < end_word → Good role n b 0 (End ∷ [])
  unfolding Good
  good_none b h = (h, refl)

  good_lines : (b : ℕ) (ls : List LineT) (xs : List Word) → lines_fit n ls ≡ true → rising b (map line_word ls) ≡ true → b < 4 * 2 ^ 28
      → ((c : ℕ) → c < 4 * 2 ^ 28 → Good role n c 0 xs) → Good role n b (length ls) (map Line ls ++ xs)
  unfolding Good PartFits lines_fit rising
  good_lines b [] xs f r h g = g b h
  good_lines b (l ∷ ls) xs f r h g =
      let a = both (line_fits n l) (lines_fit n ls) f in
      let i = fits n l a.0 in
      let s = both (nat_lt b (line_word l)) (rising (line_word l) (map line_word ls)) r in
      let fr : l.from < 64 = omega (arith, i.from_below) in
      let to : l.to < 64 = omega (arith, i.to_below) in (
        (fr, to, i.label),
        (rw (lt-ltb l.from n i.from_below, lt-ltb l.to n i.to_below)),
        ltb-true b (line_word l) s.0,
        (omega arith),
        subst (λ (k : ℕ). Good role n (line_word l) k (map Line ls ++ xs)) (omega arith)
            (good_lines (line_word l) ls xs a.1 s.1 (line_low l fr to i.label) g),
      )

pub line_high : (f : ℕ) (x : Label) (t : ℕ) → 2 * 2 ^ 28 ≤ line_word (record { from = f; label = x; to = t })
line_high f (Action a) t = omega arith
line_high f Silent t = omega arith

-- lines come after a head
after_head : (b : ℕ) (ls : List LineT) → b < 2 * 2 ^ 28 → rising 0 (map line_word ls) ≡ true → rising b (map line_word ls) ≡ true
unfolding rising
after_head b [] h r = refl
after_head b (l ∷ ls) h r =
    let s = both (nat_lt 0 (line_word l)) (rising (line_word l) (map line_word ls)) r in
    rw (lt-ltb b (line_word l) (omega (arith, line_high l.from l.label l.to))) s.1

encode_lines : (ls : List LineT) (xs : List Word) → map encode (map Line ls ++ xs) ≡ map line_word ls ++ map encode xs
encode_lines [] xs = refl
encode_lines (l ∷ ls) xs = ap (λ (ws : List ℕ). line_word l ∷ ws) (encode_lines ls xs)

encode_passing : (qs : List ℕ) (xs : List Word) → map encode (map Passing qs ++ xs) ≡ map passing_word qs ++ map encode xs
encode_passing [] xs = refl
encode_passing (q ∷ qs) xs = ap (λ (ws : List ℕ). passing_word q ∷ ws) (encode_passing qs xs)

-- the lines and passing states of such parts
lines_of_lem : (ls : List LineT) (qs : List ℕ) → lines_of (map Line ls ++ (map Passing qs ++ (End ∷ []))) ≡ ls
unfolding lines_of
lines_of_lem [] [] = refl
lines_of_lem [] (q ∷ qs) = lines_of_lem [] qs
lines_of_lem (l ∷ ls) qs = ap (λ (xs : List LineT). l ∷ xs) (lines_of_lem ls qs)

passing_of_lem : (ls : List LineT) (qs : List ℕ) → passing_of (map Line ls ++ (map Passing qs ++ (End ∷ []))) ≡ qs
unfolding passing_of
passing_of_lem [] [] = refl
passing_of_lem [] (q ∷ qs) = ap (λ (ps : List ℕ). q ∷ ps) (passing_of_lem [] qs)
passing_of_lem (l ∷ ls) qs = passing_of_lem ls qs

head_again : (k s n : ℕ) → k ≤ 256 → s < n → n ≤ 64 → checked_head (head_word k s n) ≡ Ok (record { lines = k; start = s; states = n })
head_again k s n hk hs hn =
    let w : ℕ = head_word k s n in
    let e : kind w ≡ 1 = omega arith in
    let bk : bits w 16 12 ≡ k = omega arith in
    let bs : bits w 8 8 ≡ s = omega arith in
    let bn : bits w 0 8 ≡ n = omega arith in
    let p : 0 < n = omega arith in
    rw (e, bk, bs, bn, lt-ltb 0 n p, le-leb n 64 hn, lt-ltb s n hs, le-leb k 256 hk)

all_below_lem : (n : ℕ) (qs : List ℕ) → ((q : ℕ) → Memᴰ q qs → q < n) → Below n qs
all_below_lem n [] f = tt
all_below_lem n (q ∷ qs) f = (f q (Memᴰ.head refl), all_below_lem n qs (λ p m. f p (Memᴰ.tail m)))

module _ (role : Role) (c : Contents) (v : Valid role c) where
  pub listed : Lists c.passing (members c.passing)
  listed = lists 64 c.passing (let p : 2 ^ c.states ≤ 2 ^ 64 = pow_mono v.most in omega (arith, v.passing))

  below : Below c.states (members c.passing)
  below = all_below_lem c.states (members c.passing) (λ q m. members_below c.states c.passing q v.passing ((listed.exact q).0 m))

  parts : List Word
  parts = map Line c.lines ++ (map Passing (members c.passing) ++ (End ∷ []))

  ending : (b : ℕ) → b < 4 * 2 ^ 28 → Good role c.states b 0 (map Passing (members c.passing) ++ (End ∷ []))
  ending b h = by (is_test role) refl
    where
      by : (t : Bool) → is_test role ≡ t → Good role c.states b 0 (map Passing (members c.passing) ++ (End ∷ []))
      by true t =
          good_passing role c.states v.most b (members c.passing) t below listed.ascending (past_low b (members c.passing) h) (omega arith)
      by false t =
          subst (λ (s : ℕ). Good role c.states b 0 (map Passing (members s) ++ (End ∷ []))) (sym (v.allowed t))
          (subst (λ (qs : List ℕ). Good role c.states b 0 (map Passing qs ++ (End ∷ []))) (sym (members_none 0 64)) (good_none role c.states v.most b (omega arith)))

  first : ℕ
  first = head_word (length c.lines) c.start c.states

  head : Head
  head = record { lines = length c.lines; start = c.start; states = c.states }

  first_low : first < 2 * 2 ^ 28
  unfolding first
  first_low = omega (arith, v.most, v.starts, v.few)

  good : Good role c.states first (length c.lines) parts
  unfolding parts
  good =
      good_lines role c.states v.most first c.lines (map Passing (members c.passing) ++ (End ∷ [])) v.fit
      (after_head first c.lines first_low v.ordered) (omega (arith, first_low)) ending

  words : written c ≡ first ∷ map encode parts
  unfolding written first parts
  words =
      ap (λ (ws : List ℕ). first ∷ ws)
      (sym (encode_lines c.lines (map Passing (members c.passing) ++ (End ∷ [])) ∙ ap (λ (ws : List ℕ). map line_word c.lines ++ ws) (encode_passing (members c.passing) (End ∷ []))))

  checked : check role (written c) ≡ Ok head
  unfolding check_from first head
  checked =
      ap (check role) words
      ∙ (rw (head_again (length c.lines) c.start c.states v.few v.starts v.most) (accepts role head first (length c.lines) 1 parts good))

  lines_back : lines_in (written c) ≡ c.lines
  unfolding lines_in first parts
  lines_back =
      ap lines_in words
      ∙ (rw (no_part first (omega (arith, v.most, v.starts, v.few))) (lines_in_lem role c.states first (length c.lines) parts good ∙ lines_of_lem c.lines (members c.passing)))

  passing_back : passing_in (written c) ≡ members c.passing
  unfolding passing_in first parts
  passing_back =
      ap passing_in words
      ∙ (rw (no_part first (omega (arith, v.most, v.starts, v.few))) (passing_in_lem role c.states first (length c.lines) parts good ∙ passing_of_lem c.lines (members c.passing)))

  set_back : with_all 0 (members c.passing) ≡ c.passing
  set_back =
      let b = below_wider c.states 64 (members c.passing) v.most below in
      same_members (with_all 0 (members c.passing)) c.passing
      (λ q i. (listed.exact q).0 ((with_exact q (members c.passing) b).0 i)) (λ q i. (with_exact q (members c.passing) b).1 ((listed.exact q).1 i))

  -- reading what was written gives the contents back
  pub read_written : read_words role (written c) ≡ Ok c
  unfolding read_words head
  read_written =
      ap (held (written c)) checked
      ∙ ap₂ (λ (ls : List LineT) (p : ℕ). Ok (record { states = c.states; start = c.start; lines = ls; passing = p })) lines_back (ap (with_all 0) passing_back ∙ set_back)

read_head : (role : Role) (ws : List ℕ) (c : Contents) → read_words role ws ≡ Ok c → (h : Head) × (check role ws ≡ Ok h) × (contents_of ws h ≡ c)
unfolding read_words
read_head role ws c e = by (check role ws) refl e
  where
    by : (r : Result Head WordFault) → check role ws ≡ r → held ws r ≡ Ok c → (h : Head) × (check role ws ≡ Ok h) × (contents_of ws h ≡ c)
    by (Ok h) p q = (h, p, let r : contents_of ws h ≡ c = cc in r)
    by (Err f) p q = absurd (clash q)

-- writing what was read gives the words back
pub read_back : (role : Role) (ws : List ℕ) (c : Contents) → read_words role ws ≡ Ok c → written c ≡ ws
read_back role ws c e =
    let r = read_head role ws c e in
    ap written (sym r.2) ∙ written_read role ws r.0 r.1

allowed_in : (role : Role) (ws : List ℕ) (h : Head) → check role ws ≡ Ok h → is_test role ≡ false → with_all 0 (passing_in ws) ≡ 0
allowed_in Card ws h e t = card_none ws h e
allowed_in Test ws h e t = absurd (let z : ◌≡◌ {A = ℕ} 0 1 = cc in omega arith)

-- what is read is valid
pub read_valid : (role : Role) (ws : List ℕ) (c : Contents) → read_words role ws ≡ Ok c → Valid role c
read_valid role ws c e =
    let r = read_head role ws c e in
    let h = r.0 in
    let s = taken_sized role ws h r.1 in
    let v : Valid role (contents_of ws h) = record {
      some = s.some;
      most = s.most;
      starts = s.starts;
      fit = taken_fit role ws h r.1;
      ordered = taken_rising role ws h r.1;
      few = omega (arith, taken_counted role ws h r.1, s.few);
      passing = taken_passing role ws h r.1;
      allowed = allowed_in role ws h r.1;
    } in
    subst (Valid role) r.2 v
