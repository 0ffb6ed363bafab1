-- The changes kept, and the update that they are.
use Rattle.std.proofs.Common.{◌≡◌, ℕ, zero, suc, ◌+◌, ◌-◌, ◌<◌, ◌≤◌, true, false, eqb, ltb, leb, List, [], ◌∷◌, ◌++◌, map, length, take, drop, IfSome, Some, None, sym, refl, ap, ◌∙◌, arith, length-drop}
use lib.ListN.{length-map}
use Rattle.std.specs.Option.{option_map, unwrap_or}
use Rattle.std.specs.List.{insert, position, position_or_len, count_by}
use Rattle.std.specs.List.{find as first}
use Rattle.std.proofs.lemmas.List.Recursion.{is_count_by, is_position_or_len}
use Rattle.std.proofs.lemmas.List.{drop_at, drop-append-le, take-append-le, take_all}
use Rattle.std.proofs.lemmas.Bool.{ltb-true, ltb-false, leb-true, leb-false, lt-ltb, le-ltb, le-leb, lt-leb, and_parts, and_from}
use Rattle.entries.specs.Cells.{part}
use Rattle.format.specs.Book.{has_room, most_changes, most_body_bytes}
use Rattle.format.specs.Bytes.{Bytes}
use Rattle.format.specs.Revisions.{find}
use Rattle.format.specs.Updates as format
use Rattle.format.specs.Updates.{Update, with_change, body_length, body_bytes, new_numbers}
use Rattle.locality.proofs.Cases.{cases}
use Rattle.locality.proofs.Tests.{clash}
use Rattle.writer.specs.declared.change.Change.{Change}
use Rattle.writer.specs.declared.change.Content.{Content}
use Rattle.writer.specs.declared.change.Content.TheVariants.{Body, Removed}
use Rattle.writer.specs.Changes.{content_in, row_in, update_in, pair_of, within, all_within, place_for}

-- the change of a number, as the format has it
pub found_in : (n : ℕ) (pool : Bytes) (cs : List Change) → option_map (content_in pool) (find n (map pair_of cs)) ≡ find n (update_in pool cs)
unfolding find
found_in n pool [] = refl
found_in n pool (c ∷ cs) =
    cases (eqb n c.number)
    (λ e. rw (e, find) refl)
    (λ e. rw (e, find) (found_in n pool cs))

-- its body lies among the bytes kept
pub found_kept : (n k : ℕ) (cs : List Change) → all_within k cs ≡ true → IfSome (find n (map pair_of cs)) (λ c. within k c ≡ true)
unfolding find
found_kept n k [] h = tt
found_kept n k (c ∷ cs) h =
    let p = and_parts (within k c.content) (all_within k cs) h in
    cases (eqb n c.number)
    (λ e. rw (e, find) p.0)
    (λ e. rw (e, find) (found_kept n k cs p.1))

-- it is that of the first change of the number
pub found_first : (n : ℕ) (cs : List Change) → option_map (λ c. c.content) (first (λ c. eqb n c.number) cs) ≡ find n (map pair_of cs)
unfolding find
found_first n [] = refl
found_first n (c ∷ cs) =
    cases (eqb n c.number)
    (λ e. rw (e, find) refl)
    (λ e. rw (e, find) (found_first n cs))

-- the place is one of the list
pub place_within : (n : ℕ) (cs : List Change) → place_for n cs ≤ length cs
place_within n [] = omega arith
place_within n (c ∷ cs) =
    cases (ltb n c.number)
    (λ e. rw (e, place_for) (omega arith))
    (λ e. rw (e, place_for) (let h = place_within n cs in omega arith))

counted : (n : ℕ) → suc n ≡ 1 + n
counted n = omega arith

-- the first place whose number is greater, or the place behind all
place_counted : (n : ℕ) (cs : List Change) → place_for n cs ≡ position_or_len (λ c. ltb n c.number) cs
place_counted n =
    is_position_or_len (place_for n) (λ c. ltb n c.number) refl
    (λ c cs.
    cases (ltb n c.number)
    (λ e. rw (e, place_for) refl)
    (λ e. rw (e, place_for) (counted _)))

pub place_first : (n : ℕ) (cs : List Change) → unwrap_or (position (λ c. ltb n c.number) cs) (length cs) ≡ place_for n cs
place_first n cs =
    let k = place_counted n cs in
    let w = place_within n cs in
    cases (ltb (position_or_len (λ c. ltb n c.number) cs) (length cs))
    (λ e. rw e (sym k))
    (λ e.
    let l = ltb-false (position_or_len (λ c. ltb n c.number) cs) (length cs) e in
    let q : length cs ≡ place_for n cs = omega (arith, k, l, w) in
    rw e q)

-- how many changes are of new numbers
pub new_counted : (size : ℕ) (pool : Bytes) (cs : List Change) → count_by (λ c. leb size c.number) cs ≡ new_numbers size (update_in pool cs)
unfolding new_numbers
new_counted size pool cs =
    sym
    (is_count_by (λ ds. new_numbers size (update_in pool ds)) (λ c. leb size c.number) refl
    (λ c ds.
    cases (leb size c.number)
    (λ e. rw (e, new_numbers) (counted _))
    (λ e. rw (e, new_numbers) refl))
    cs)

-- no changes
pub none_within : (k : ℕ) (cs : List Change) → cs ≡ [] → all_within k cs ≡ true
none_within k cs e = rw e refl

pub none_bytes : (pool : Bytes) (cs : List Change) (n : ℕ) → cs ≡ [] → n ≡ 0 → body_bytes (update_in pool cs) ≡ n
unfolding body_bytes
none_bytes pool cs n e f = rw (e, f) refl

pub none_held : (pool : Bytes) (cs : List Change) → cs ≡ [] → update_in pool cs ≡ []
none_held pool cs e = rw e refl

-- no change of the number, and none of those behind
none_behind : (n : ℕ) (pool : Bytes) (c : Change) (cs : List Change) → find n (update_in pool (c ∷ cs)) ≡ None → (eqb n c.number ≡ false) × (find n (update_in pool cs) ≡ None)
unfolding find
none_behind n pool c cs h =
    cases (eqb n c.number)
    (λ e. let f : Some (content_in pool c.content) ≡ None = rw (e, find) at h in clash (cc))
    (λ e. let f : find n (update_in pool cs) ≡ None = rw (e, find) at h in (e, f))

-- a change set at its place
pub placed : (n : ℕ) (k : Content) (pool : Bytes) (cs : List Change) → find n (update_in pool cs) ≡ None →
    update_in pool (insert cs (place_for n cs) (record { number = n; content = k })) ≡ with_change n (content_in pool k) (update_in pool cs)
unfolding with_change
placed n k pool [] h = refl
placed n k pool (c ∷ cs) h =
    let p = none_behind n pool c cs h in
    let f : eqb n c.number ≡ false = p.0 in
    cases (ltb n c.number)
    (λ e. rw (e, with_change, place_for) refl)
    (λ e. rw (e, f, with_change, place_for) (ap (λ rs. row_in pool c ∷ rs) (placed n k pool cs p.1)))

-- where more bytes are kept, bodies still lie among them
stays : (k m : ℕ) (c : Content) → within k c ≡ true → k ≤ m → within m c ≡ true
stays k m (Body s e) h l =
    let p = and_parts (leb s e) (leb e k) h in
    let q = leb-true e k p.1 in
    and_from (leb s e) (leb e m) p.0 (le-leb e m (omega arith))
stays k m Removed h l = refl

all_stay : (k m : ℕ) (cs : List Change) → all_within k cs ≡ true → k ≤ m → all_within m cs ≡ true
all_stay k m [] h l = refl
all_stay k m (c ∷ cs) h l =
    let p = and_parts (within k c.content) (all_within k cs) h in
    and_from (within m c.content) (all_within m cs) (stays k m c.content p.0 l) (all_stay k m cs p.1 l)

one_more : (m i : ℕ) (x : Change) (cs : List Change) → all_within m cs ≡ true → within m x.content ≡ true → all_within m (insert cs i x) ≡ true
one_more m zero x cs h l = and_from (within m x.content) (all_within m cs) l h
one_more m (suc i) x [] h l = and_from (within m x.content) true l refl
one_more m (suc i) x (c ∷ cs) h l =
    let p = and_parts (within m c.content) (all_within m cs) h in
    and_from (within m c.content) (all_within m (insert cs i x)) p.0 (one_more m i x cs p.1 l)

-- one change more, with more bytes kept
pub still_within : (k m i : ℕ) (x : Change) (cs : List Change) → all_within k cs ≡ true → k ≤ m → within m x.content ≡ true → all_within m (insert cs i x) ≡ true
still_within k m i x cs h l w = one_more m i x cs (all_stay k m cs h l) w

-- a new body lies behind the bytes kept before
pub new_within : (s e m : ℕ) → s ≤ e → e ≤ m → within m (Body s e) ≡ true
new_within s e m h l = and_from (leb s e) (leb e m) (le-leb s e h) (le-leb e m l)

-- where more bytes are kept, a body is the same
same_content : (pool more : Bytes) (c : Content) → within (length pool) c ≡ true → content_in (pool ++ more) c ≡ content_in pool c
same_content pool more (Body s e) h =
    let p = and_parts (leb s e) (leb e (length pool)) h in
    let l = leb-true s e p.0 in
    let q = leb-true e (length pool) p.1 in
    let d = length-drop s pool in
    ap format.body (ap (take (e - s)) (drop-append-le s pool more (omega arith)) ∙ take-append-le (e - s) (drop s pool) more (omega arith))
same_content pool more Removed h = refl

same_update : (pool more : Bytes) (cs : List Change) → all_within (length pool) cs ≡ true → update_in (pool ++ more) cs ≡ update_in pool cs
same_update pool more [] h = refl
same_update pool more (c ∷ cs) h =
    let p = and_parts (within (length pool) c.content) (all_within (length pool) cs) h in
    ap (λ x. (c.number, x) ∷ update_in (pool ++ more) cs) (same_content pool more c.content p.0)
    ∙ ap (λ rs. (c.number, content_in pool c.content) ∷ rs) (same_update pool more cs p.1)

-- the bytes put behind are the new body
new_part : (pool more : Bytes) (s e : ℕ) → s ≡ length pool → e ≡ s + length more → part (pool ++ more) s e ≡ more
new_part pool more s e h l = ap (take (e - s)) (drop_at pool more s (sym h)) ∙ take_all (e - s) more (omega arith)

-- a body put: the bytes kept behind the others, the change at its place
pub body_put : (n s e k : ℕ) (pool more pool' : Bytes) (cs cs' : List Change) →
    find n (update_in pool cs) ≡ None → all_within k cs ≡ true → k ≡ length pool → s ≡ k → e ≡ s + length more → pool' ≡ pool ++ more →
    cs' ≡ insert cs (place_for n cs) (record { number = n; content = Body s e }) →
    update_in pool' cs' ≡ with_change n (format.body more) (update_in pool cs)
body_put n s e k pool more pool' cs cs' none h len hs he hp hc =
    let w : all_within (length pool) cs ≡ true = rw len at h in
    let same = same_update pool more cs w in
    let none' : find n (update_in (pool ++ more) cs) ≡ None = ap (find n) same ∙ none in
    let own : content_in (pool ++ more) (Body s e) ≡ format.body more = ap format.body (new_part pool more s e (hs ∙ len) he) in
    ap (λ p. update_in p cs') hp
    ∙ ap (update_in (pool ++ more)) hc
    ∙ placed n (Body s e) (pool ++ more) cs none'
    ∙ ap (λ c. with_change n c (update_in (pool ++ more) cs)) own
    ∙ ap (with_change n (format.body more)) same

-- an object removed
pub body_removed : (n : ℕ) (pool : Bytes) (cs cs' : List Change) → find n (update_in pool cs) ≡ None →
    cs' ≡ insert cs (place_for n cs) (record { number = n; content = Removed }) →
    update_in pool cs' ≡ with_change n format.removed (update_in pool cs)
body_removed n pool cs cs' none hc = ap (update_in pool) hc ∙ placed n Removed pool cs none

-- how many bytes the bodies are with one change more
pub bytes_with : (n : ℕ) (c : format.Change) (u : Update) → find n u ≡ None → body_bytes (with_change n c u) ≡ body_bytes u + body_length c
unfolding with_change body_bytes find
bytes_with n c [] h = omega arith
bytes_with n c (r ∷ rs) h =
    cases (eqb n r.0)
    (λ e. let f : Some r.1 ≡ None = rw (e, find) at h in clash (cc))
    (λ e.
    let f : find n rs ≡ None = rw (e, find) at h in
    cases (ltb n r.0)
    (λ d. rw (d, with_change) (omega arith))
    (λ d. rw (d, e, with_change) (let q = bytes_with n c rs f in omega arith)))

-- there is room for one change more
pub room : (k : ℕ) (pool : Bytes) (cs : List Change) → has_room (update_in pool cs) k ≡ true → (length cs < most_changes) × (body_bytes (update_in pool cs) + k ≤ most_body_bytes)
unfolding has_room
room k pool cs h =
    let u = update_in pool cs in
    let p = and_parts (ltb (length u) most_changes) (leb (body_bytes u + k) most_body_bytes) h in
    let l = length-map cs (row_in pool) in
    let few = ltb-true (length u) most_changes p.0 in
    (omega arith, leb-true (body_bytes u + k) most_body_bytes p.1)

-- whether there is room, by the counts of the update
pub room_is : (k n m : ℕ) (u : Update) → n ≡ length u → m ≡ body_bytes u → m ≤ most_body_bytes → n < most_changes → leb k (most_body_bytes - m) ≡ has_room u k
unfolding has_room
room_is k n m u hn hm small few =
    let p : ltb (length u) most_changes ≡ true = lt-ltb (length u) most_changes (omega arith) in
    cases (leb k (most_body_bytes - m))
    (λ e. let q : leb (body_bytes u + k) most_body_bytes ≡ true = le-leb (body_bytes u + k) most_body_bytes (omega (arith, leb-true k (most_body_bytes - m) e)) in rw (e, p, q) refl)
    (λ e. let q : leb (body_bytes u + k) most_body_bytes ≡ false = lt-leb (body_bytes u + k) most_body_bytes (omega (arith, leb-false k (most_body_bytes - m) e)) in rw (e, p, q) refl)

pub no_room : (k n : ℕ) (u : Update) → n ≡ length u → most_changes ≤ n → ltb n most_changes ≡ has_room u k
unfolding has_room
no_room k n u e h =
    let p : ltb (length u) most_changes ≡ false = le-ltb (length u) most_changes (omega arith) in
    let q : ltb n most_changes ≡ false = le-ltb n most_changes h in
    rw (p, q) refl
