-- Each step keeps the chain, and what was seen of it stays a prefix.
use Rattle.std.proofs.Common.{◌≡◌, List, [], ◌∷◌, refl, ◌⊎◌, inl, inr, ⊎_elim, ◌∙◌, ℕ, zero, suc, ◌<◌, ◌==◌, Bool, true}
use Rattle.std.proofs.Common.{false, ◌++◌, length, length-append, append-nil, append_assoc, if◌then◌else◌, ap, sym}
use Rattle.std.proofs.Common.{subst, arith, None, slice_set}
use mathlib.Core.List.{IsPrefix}
use Rattle.std.proofs.lemmas.Bool.Decides.{nat_tests}
use base.Growing.{prefix_trans}
use prog.Atomic.{either}
use Rattle.camel_rows.specs.Update.{Extends}
use Rattle.camel_rows.specs.declared.subscriber.update.Update.{Update}
use Rattle.logbook.specs.Pages.{Away, Cell, Goes, Moves, Nib, View, adds, cell, gives, keeps, may_write, no_nib, step}
use Rattle.camel_vlr.specs.History.{AddsLink, AllUsedUp, IsUsedUp, KeepsChain, MakesCell, UsedUp, list_of, root_of}
use Rattle.camel_vlr.specs.History.{tail_of, terms_of}
use Rattle.camel_vlr.specs.declared.history.link.Link.{Link}

-- Prefixes of one list.

-- of two prefixes of one list one extends the other
pub one_extends : (first second whole : List Update) → IsPrefix first whole → IsPrefix second whole → Extends second first ⊎ Extends first second
one_extends [] second whole p q = inl (second, refl)
one_extends (x ∷ first) [] whole p q = inr (x ∷ first, refl)
one_extends (x ∷ first) (y ∷ second) [] p q = absurd (cc (p.1))
one_extends (x ∷ first) (y ∷ second) (z ∷ whole) p q =
    let same : x ≡ y = cc (p.1, q.1) in
    ⊎_elim (λ (e : Extends second first). inl (e.0, cc (same, e.1))) (λ (e : Extends first second). inr (e.0, cc (same, e.1)))
    (one_extends first second whole (p.0, cc (p.1)) (q.0, cc (q.1)))

-- Each step keeps the chain, and what was seen of it stays.

-- the cell of this key is there, and at home
abbrev IsHome : List Cell → ℕ → Type 0
IsHome cells key = (key < length cells) × ((cell cells key).1 ≡ true)

-- the chain from a cell on has these updates, and goes on at this cell
abbrev IsChain : ℕ → List Link → List Update → ℕ → Type 0
IsChain start links updates next = (list_of start links ≡ updates) × (tail_of start links ≡ next)

-- ---- cells

cell-push : (cells : List Cell) (new : Cell) (key : ℕ) → key < length cells → cell (cells ++ new ∷ []) key ≡ cell cells key
cell-push [] new key less = absurd (omega (arith, less))
cell-push (x ∷ cells) new zero less = refl
cell-push (x ∷ cells) new (suc key) less = cell-push cells new key (omega arith)

-- a cell that is at home stays there when another comes home
home-stays : (cells : List Cell) (other n key : ℕ) → key < length cells → (cell cells key).1 ≡ true → IsHome (slice_set cells other (n, true)) key
home-stays [] other n key less home = absurd (omega (arith, less))
home-stays (x ∷ cells) zero n zero less home = (omega arith, refl)
home-stays (x ∷ cells) zero n (suc key) less home = (less, home)
home-stays (x ∷ cells) (suc other) n zero less home = (omega arith, home)
home-stays (x ∷ cells) (suc other) n (suc key) less home = let there = home-stays cells other n key (omega arith) home in (omega (arith, there.0), there.1)

-- and the one that comes home is there
comes-home : (cells : List Cell) (key n : ℕ) → key < length cells → IsHome (slice_set cells key (n, true)) key
comes-home [] key n less = absurd (omega (arith, less))
comes-home (x ∷ cells) zero n less = (omega arith, refl)
comes-home (x ∷ cells) (suc key) n less = let there = comes-home cells key n (omega arith) in (omega (arith, there.0), there.1)

used-with-cell : (cells : List Cell) (links : List Link) → AllUsedUp cells links → AllUsedUp (cells ++ (0, false) ∷ []) links
used-with-cell cells [] all = tt
used-with-cell cells (link ∷ links) all = (
  (omega (arith, all.0.0, length-append cells ((0, false) ∷ [])), ap (λ (c : Cell). c.1) (cell-push cells (0, false) link.cell all.0.0) ∙ all.0.1),
  used-with-cell cells links all.1,
)

used-with-home : (cells : List Cell) (other n : ℕ) (links : List Link) → AllUsedUp cells links → AllUsedUp (slice_set cells other (n, true)) links
used-with-home cells other n [] all = tt
used-with-home cells other n (link ∷ links) all = (home-stays cells other n link.cell all.0.0 all.0.1, used-with-home cells other n links all.1)

used-push : (cells : List Cell) (links : List Link) (link : Link) → AllUsedUp cells links → IsUsedUp cells link → AllUsedUp cells (links ++ link ∷ [])
used-push cells [] link all used = (used, tt)
used-push cells (x ∷ links) link all used = (all.0, used-push cells links link all.1 used)

-- ---- the chain from a cell on

differs : (cells : List Cell) (link : Link) (start : ℕ) → IsUsedUp cells link → ¬ IsUsedUp cells (record link { cell = start }) → (link.cell == start) ≡ false
differs cells link start used not = by_test (link.cell == start) refl
  where
    by_test : (b : Bool) → (link.cell == start) ≡ b → (link.cell == start) ≡ false
    by_test false p = p
    by_test true p = let same : link.cell ≡ start = grind (arith, nat_tests) in absurd (not (subst (IsHome cells) same used))

-- no link follows a cell that is not at home
none-follows : (cells : List Cell) (start : ℕ) (links : List Link) → ((link : Link) → link.cell ≡ start → ¬ IsUsedUp cells link) → AllUsedUp cells links
    → IsChain start links [] start
none-follows cells start [] away all = (refl, refl)
none-follows cells start (link ∷ links) away all =
    let other = differs cells link start all.0 (away (record link { cell = start }) refl) in
    rw other (none-follows cells start links away all.1)

-- While the next cell of a chain is not at home, the chain is as it was seen.
chain-stays : (cells : List Cell) (next start : ℕ) (seen links : List Link) → ((link : Link) → link.cell ≡ next → ¬ IsUsedUp cells link)
    → tail_of start seen ≡ next → IsPrefix seen links → AllUsedUp cells links → IsChain start links (list_of start seen) next
chain-stays cells next start [] links away at prefix all =
    let none = none-follows cells start links (λ link same. away link (same ∙ at)) all in (none.0, none.1 ∙ at)
chain-stays cells next start (x ∷ seen) [] away at prefix all = absurd (cc (prefix.1))
chain-stays cells next start (x ∷ seen) (link ∷ links) away at prefix all =
    let heads : x ≡ link = cc (prefix.1) in
    let rest : IsPrefix seen links = (prefix.0, cc (prefix.1)) in
    let further : (from : ℕ) → tail_of from seen ≡ next → IsChain from links (list_of from seen) next =
    λ from there. chain-stays cells next from seen links away there rest all.1 in
    subst (λ (y : Link). IsChain start (y ∷ links) (list_of start (x ∷ seen)) next) heads (by_test further (x.cell == start) refl at)
  where
    by_test : ((from : ℕ) → tail_of from seen ≡ next → IsChain from links (list_of from seen) next) → (b : Bool) → (x.cell == start) ≡ b
        → tail_of start (x ∷ seen) ≡ next → IsChain start (x ∷ links) (list_of start (x ∷ seen)) next
    by_test further true p there =
        let same = further x.next (subst (λ b. (if b then tail_of x.next seen else tail_of start seen) ≡ next) p there) in
        rw p (ap (λ updates. x.updates ++ updates) same.0, same.1)
    by_test further false p there = let same = further start (subst (λ b. (if b then tail_of x.next seen else tail_of start seen) ≡ next) p there) in rw p same

-- a link that uses up the chain's next cell puts its updates behind the chain
chain-push : (start : ℕ) (links : List Link) (link : Link) → (link.cell == tail_of start links) ≡ true
    → IsChain start (links ++ link ∷ []) (list_of start links ++ link.updates) link.next
chain-push start [] link at = rw at (append-nil link.updates, refl)
chain-push start (x ∷ links) link at = by_test (λ from there. chain-push from links link there) (x.cell == start) refl at
  where
    by_test : ((from : ℕ) → (link.cell == tail_of from links) ≡ true → IsChain from (links ++ link ∷ []) (list_of from links ++ link.updates) link.next)
        → (b : Bool) → (x.cell == start) ≡ b → (link.cell == tail_of start (x ∷ links)) ≡ true
        → IsChain start ((x ∷ links) ++ link ∷ []) (list_of start (x ∷ links) ++ link.updates) link.next
    by_test further true p there =
        let same = further x.next (subst (λ b. (link.cell == (if b then tail_of x.next links else tail_of start links)) ≡ true) p there) in
        rw p (ap (λ updates. x.updates ++ updates) same.0 ∙ sym (append_assoc x.updates (list_of x.next links) link.updates), same.1)
    by_test further false p there =
        let same = further start (subst (λ b. (link.cell == (if b then tail_of x.next links else tail_of start links)) ≡ true) p there) in rw p same

root-push : (links : List Link) (link : Link) → root_of (links ++ link ∷ []) ≡ link.next
root-push [] link = refl
root-push (x ∷ []) link = refl
root-push (x ∷ y ∷ links) link = root-push (y ∷ links) link

terms-push : (links : List Link) (link : Link) → terms_of (links ++ link ∷ []) ≡ link.terms
terms-push [] link = refl
terms-push (x ∷ []) link = refl
terms-push (x ∷ y ∷ links) link = terms-push (y ∷ links) link

-- the chain in a beginning of the links begins the chain
pub list_of-prefix : (start : ℕ) (seen links : List Link) → IsPrefix seen links → IsPrefix (list_of start seen) (list_of start links)
list_of-prefix start [] links prefix = (list_of start links, refl)
list_of-prefix start (x ∷ seen) [] prefix = absurd (cc (prefix.1))
list_of-prefix start (x ∷ seen) (link ∷ links) prefix =
    let heads : x ≡ link = cc (prefix.1) in
    let further : (from : ℕ) → IsPrefix (list_of from seen) (list_of from links) = λ from. list_of-prefix from seen links (prefix.0, cc (prefix.1)) in
    subst (λ (y : Link). IsPrefix (list_of start (x ∷ seen)) (list_of start (y ∷ links))) heads (by_test further (x.cell == start) refl)
  where
    by_test : ((from : ℕ) → IsPrefix (list_of from seen) (list_of from links)) → (b : Bool) → (x.cell == start) ≡ b
        → IsPrefix (list_of start (x ∷ seen)) (list_of start (x ∷ links))
    by_test further true p =
        let rest = further x.next in rw p (rest.0, append_assoc x.updates (list_of x.next seen) rest.0 ∙ ap (λ updates. x.updates ++ updates) rest.1)
    by_test further false p = rw p (further start)

-- ---- the three steps

abbrev pub nothing_shown : List Link → List Link
nothing_shown links = []

abbrev pub nothing_moved : List Link → List Link → ℕ → Type 0
nothing_moved before after answer = Unit {0}

abbrev pub same_word : ℕ → ℕ
same_word n = either (n == 0) 0 n

head-stays : (others : List Cell) (key n : ℕ) → (cell ((0, true) ∷ others) key).1 ≡ false
    → (rest : List Cell) × (slice_set ((0, true) ∷ others) key (n, true) ≡ (0, true) ∷ rest)
head-stays others zero n away = absurd (cc away)
head-stays others (suc key) n away = (slice_set others key (n, true), refl)

-- a step of the seat that has seen these links, and has this right
module _ (seen : List Link) (right_to : Nib) (play : View Link ℕ → ℕ → View Link ℕ → Type 0) where
  abbrev GoesAt : List Cell → List Link → Type 0
  GoesAt = Goes UsedUp nothing_shown nothing_moved 0 (seen, (right_to, None)) same_word (play (seen, (right_to, None)))

  abbrev pub MovesAt : Type 0
  MovesAt = Moves UsedUp nothing_shown nothing_moved 0 (seen, (right_to, None)) same_word (play (seen, (right_to, None)))

  moves : ((links : List Link) (others : List Cell) → Away right_to ((0, true) ∷ others) → IsPrefix seen links → AllUsedUp ((0, true) ∷ others) links
      → GoesAt ((0, true) ∷ others) links) → MovesAt
  moves goes cells links kept prefix away =
      let P : List Cell → Type 0 = λ c. Away right_to c → AllUsedUp c links → IsHome c 0 × GoesAt c links in
      let there = subst P (sym kept.head) (λ out all. ((omega arith, refl), goes links kept.others out prefix all)) away kept.each in
      (there.0.0, there.0.1, there.1)

pub makes : (seen : List Link) (ask : Link) → MovesAt seen no_nib (MakesCell (step 0 0 0 ask))
makes seen ask = moves seen no_nib (MakesCell (step 0 0 0 ask)) (λ links others away prefix all.
    let cells : List Cell = (0, true) ∷ others in
    let link : Link = record { cell = 0; updates = []; next = length cells; terms = ask.terms } in
    let used = used-push cells links link all (omega arith, refl) in
    let none = none-follows cells (length cells) (links ++ link ∷ []) (λ x same home. absurd (omega (arith, same, home.0))) used in (
      adds,
      link ∷ [],
      None,
      tt,
      record { others = others ++ (0, false) ∷ []; head = refl; each = used-with-cell cells (links ++ link ∷ []) used },
      inl (refl, refl),
      record { right = refl; list = none.0; tail = none.1; root = root-push links link; terms = terms-push links link },
    ))

pub adds_link : (seen : List Link) (updates : List Update) (next : ℕ) (ask : Link) (right_to : Nib) → right_to.right ≡ may_write
    → MovesAt seen right_to (AddsLink updates next (step 0 0 0 ask))
adds_link seen updates next ask right_to right = moves seen right_to (AddsLink updates next (step 0 0 0 ask)) (λ links others away prefix all.
    let cells : List Cell = (0, true) ∷ others in
    let out = away right in
    let link : Link = record { cell = right_to.key; updates = updates; next = next; terms = ask.terms } in
    let head = head-stays others right_to.key right_to.value out.1 in (
      gives,
      link ∷ [],
      None,
      right,
      record {
        others = head.0;
        head = head.1;
        each = used-push (slice_set cells right_to.key (right_to.value, true)) links link (used-with-home cells right_to.key right_to.value links all)
            (comes-home cells right_to.key right_to.value out.0);
      },
      inl (refl, refl),
      (λ start at.
          let old = chain-stays cells right_to.key start seen links
          (λ x same home. absurd (cc (subst (λ (key : ℕ). (cell cells key).1 ≡ true) same home.1, out.1))) at prefix all in
          let tail : tail_of start links ≡ right_to.key = old.1 in
          let follows : (right_to.key == tail_of start links) ≡ true = grind (arith, nat_tests) in
          let new = chain-push start links link follows in
          (new.0 ∙ ap (λ list. list ++ updates) old.0, new.1)),
    ))

pub keeps_chain : (seen : List Link) (ask : Link) (right_to : Nib) → right_to.right ≡ may_write → MovesAt seen right_to (KeepsChain (step 0 0 0 ask))
keeps_chain seen ask right_to right = moves seen right_to (KeepsChain (step 0 0 0 ask)) (λ links others away prefix all.
    let cells : List Cell = (0, true) ∷ others in
    let out = away right in (
      keeps,
      [],
      None,
      tt,
      record { others = others; head = refl; each = rw (append-nil links) all },
      inl (refl, refl),
      record {
        nib = refl;
        chain = λ earlier start first at.
            let old = chain-stays cells right_to.key start earlier links
            (λ x same home. absurd (cc (subst (λ (key : ℕ). (cell cells key).1 ≡ true) same home.1, out.1))) at
            (prefix_trans earlier seen links first prefix) all in
            rw (append-nil links) old.0;
      },
    ))
