-- One line more: what a script says from a cursor on, by the line that starts there.
use Rattle.std.proofs.Common.{◌≡◌, ℕ, suc, ◌+◌, ◌-◌, ◌≤◌, List, [], ◌∷◌, ◌++◌, length, take, drop, Some, None, Ok, Err, Result, sym, refl, ap, ◌∙◌, ⊎_elim, add-one, arith, take-add, MatchResult}
use Rattle.std.proofs.lemmas.List.{drop-drop, drop_all, take-take, length-take-le, length-drop}
use Rattle.std.specs.Result.{IsErrAnd}
use Rattle.format.specs.Bytes.{Bytes}
use Rattle.format.specs.Updates.{body, removed}
use Rattle.locality.proofs.Tests.{clash}
use Rattle.scripts.specs.declared.cursor.Cursor.{Cursor}
use Rattle.scripts.specs.declared.error.Mistake.{Mistake}
use Rattle.scripts.specs.declared.error.Mistake.TheVariants.{NoEnd}
use Rattle.scripts.specs.declared.error.ScriptError.{ScriptError}
use Rattle.scripts.specs.declared.line.BodyLine.TheVariants.{Text, End}
use Rattle.scripts.specs.declared.line.Head.{Head}
use Rattle.scripts.specs.declared.line.Head.TheVariants.{Remove, Put}
use Rattle.scripts.specs.Dots.{undotted, without_last}
use Rattle.scripts.specs.Errors.{wrong_at}
use Rattle.scripts.specs.Lines.{lines_of, head_of, body_line_of}
use Rattle.scripts.specs.Scripts.{Item, change, stop, Where, between, inside, items_of}
use Rattle.scripts.specs.Walks.{part, HeadRead, LineRead, said, said_at}
use Rattle.scripts.proofs.Small.{head_small}

-- what is wrong in a line is handed on with the line's number
abbrev pub Numbered : {T : Type 0} → ℕ → Result T Mistake → Result T ScriptError → Type 0
Numbered k r s = MatchResult r (λ x. s ≡ Ok x) (λ m. IsErrAnd s (λ e. e ≡ wrong_at k m))

pub numbered_ok : {T : Type 0} (k : ℕ) (r : Result T Mistake) (s : Result T ScriptError) (x : T) {q : Result T Mistake} → r ≡ q → Numbered k r s → s ≡ Ok x → q ≡ Ok x
numbered_ok k (Ok y) s x w m e = cc
numbered_ok k (Err f) (Ok y) x w m e = absurd m
numbered_ok k (Err f) (Err g) x w m e = clash (cc)

pub numbered_err : {T : Type 0} (k : ℕ) (r : Result T Mistake) (s : Result T ScriptError) (x : ScriptError) {q : Result T Mistake} → r ≡ q → Numbered k r s → s ≡ Err x → (m : Mistake) × (q ≡ Err m) × (x ≡ wrong_at k m)
numbered_err k (Ok y) s x w m e = clash (cc)
numbered_err k (Err f) (Ok y) x w m e = absurd m
numbered_err k (Err f) (Err h) x w m e = let i : x ≡ h = cc in (f, sym w, i ∙ m)

-- a line that says nothing
pub nothing_said : (k : ℕ) (l : Bytes) (ls : List Bytes) → head_of l ≡ Ok None → items_of between k (l ∷ ls) ≡ items_of between (suc k) ls
unfolding items_of
nothing_said k l ls e = rw (e, items_of) refl

-- a line that says something
removal_said : (k n : ℕ) (l : Bytes) (ls : List Bytes) → head_of l ≡ Ok (Some (Remove n)) → items_of between k (l ∷ ls) ≡ change k n removed ∷ items_of between (suc k) ls
unfolding items_of
removal_said k n l ls e = rw (e, items_of) refl

put_said : (k n : ℕ) (l : Bytes) (ls : List Bytes) → head_of l ≡ Ok (Some (Put n)) → items_of between k (l ∷ ls) ≡ items_of (inside k n []) (suc k) ls
unfolding items_of
put_said k n l ls e = rw (e, items_of) refl

mistake_said : (k : ℕ) (l : Bytes) (ls : List Bytes) (m : Mistake) → head_of l ≡ Err m → items_of between k (l ∷ ls) ≡ stop (wrong_at k m) ∷ []
unfolding items_of
mistake_said k l ls m e = rw (e, items_of) refl

-- a line of a body
pub text_said : (s n : ℕ) (t : Bytes) (k : ℕ) (l : Bytes) (ls : List Bytes) → body_line_of l ≡ Ok Text → items_of (inside s n t) k (l ∷ ls) ≡ items_of (inside s n (t ++ (l ++ (10 ∷ [])))) (suc k) ls
unfolding items_of
text_said s n t k l ls e = rw (e, items_of) refl

pub end_said : (s n : ℕ) (t : Bytes) (k : ℕ) (l : Bytes) (ls : List Bytes) → body_line_of l ≡ Ok End → items_of (inside s n t) k (l ∷ ls) ≡ change s n (body (undotted (without_last t))) ∷ items_of between (suc k) ls
unfolding items_of
end_said s n t k l ls e = rw (e, items_of) refl

wrong_said : (s n : ℕ) (t : Bytes) (k : ℕ) (l : Bytes) (ls : List Bytes) (m : Mistake) → body_line_of l ≡ Err m → items_of (inside s n t) k (l ∷ ls) ≡ stop (wrong_at k m) ∷ []
unfolding items_of
wrong_said s n t k l ls m e = rw (e, items_of) refl

-- no line more
none_said : (k : ℕ) → items_of between k [] ≡ []
unfolding items_of
none_said k = refl

unended_said : (s n : ℕ) (t : Bytes) (k : ℕ) → items_of (inside s n t) k [] ≡ stop (wrong_at s NoEnd) ∷ []
unfolding items_of
unended_said s n t k = refl

no_lines : (src : Bytes) (p : ℕ) → length src ≤ p → lines_of (drop p src) ≡ []
unfolding lines_of
no_lines src p h = ap lines_of (drop_all p src h)

-- a part in two
part_joined : (src : Bytes) (a b c : ℕ) → a ≤ b → b ≤ c → part src a c ≡ part src a b ++ part src b c
part_joined src a b c h l =
    let d : c - a ≡ (b - a) + (c - b) = omega arith in
    let e : a + (b - a) ≡ b = omega arith in
    ap (λ k. take k (drop a src)) d
    ∙ take-add (b - a) (c - b) (drop a src)
    ∙ ap (λ ys. part src a b ++ take (c - b) ys) (drop-drop (b - a) a src ∙ ap (λ k. drop k src) e)

-- a part without its last byte
part_shorter : (src : Bytes) (a b : ℕ) → a ≤ b → b ≤ length src → without_last (part src a b) ≡ take (b - a - 1) (drop a src)
unfolding without_last
part_shorter src a b h l =
    let d = length-drop a src in
    let e : length (part src a b) ≡ b - a = length-take-le (b - a) (drop a src) (omega arith) in
    ap (λ k. take (k - 1) (part src a b)) e ∙ take-take (b - a - 1) (b - a) (drop a src) (omega arith)

-- the line after the one at hand, however it is counted
line_on : (w : Where) (was is : Cursor) (line : Bytes) → LineRead was line is → items_of w (suc (suc was.lines)) (lines_of (drop is.place was.src.now)) ≡ said_at w is
line_on w was is line r =
    sym (ap (λ s. said w s is.place is.lines) r.same ∙ ap (λ k. said w was.src.now is.place k) (r.counted ∙ add-one was.lines))

-- between changes
module _ (was : Cursor) {z : List Item} (said_was : said_at between was ≡ z) where
  -- the script ends
  pub head_none : length was.src.now ≤ was.place → z ≡ []
  head_none h = sym said_was ∙ ap (items_of between (suc was.lines)) (no_lines was.src.now was.place h) ∙ none_said _

  module _ (is : Cursor) (line : Bytes) (r : LineRead was line is) where
    first_line : items_of between (suc was.lines) (line ∷ lines_of (drop is.place was.src.now)) ≡ z
    first_line = sym (ap (items_of between (suc was.lines)) r.at.is) ∙ said_was

    pub head_past : head_of line ≡ Ok None → said_at between is ≡ z
    head_past e = sym (nothing_said _ _ _ e ∙ line_on between was is line r) ∙ first_line

    pub head_removes : (n : ℕ) → head_of line ≡ Ok (Some (Remove n)) → z ≡ change is.lines n removed ∷ said_at between is
    head_removes n e =
        sym first_line
        ∙ removal_said _ n _ _ e
        ∙ ap (λ js. change (suc was.lines) n removed ∷ js) (line_on between was is line r)
        ∙ ap (λ k. change k n removed ∷ said_at between is) (sym (r.counted ∙ add-one was.lines))

    pub head_puts : (n : ℕ) → head_of line ≡ Ok (Some (Put n)) → z ≡ said_at (inside is.lines n []) is
    head_puts n e =
        sym first_line
        ∙ put_said _ n _ _ e
        ∙ line_on (inside (suc was.lines) n []) was is line r
        ∙ ap (λ k. said_at (inside k n []) is) (sym (r.counted ∙ add-one was.lines))

    pub head_wrong : (m : Mistake) (x : ScriptError) → head_of line ≡ Err m → x ≡ wrong_at is.lines m → z ≡ stop x ∷ []
    head_wrong m x e w =
        rw w (sym first_line ∙ mistake_said _ _ _ m e ∙ ap (λ k. stop (wrong_at k m) ∷ []) (sym (r.counted ∙ add-one was.lines)))

-- the next line that says something was read, behind others that say nothing
pub head_found : (start was is : Cursor) (line : Bytes) (h : Head) → said_at between was ≡ said_at between start → LineRead was line is → head_of line ≡ Ok (Some h) → HeadRead start (Ok (Some h)) is
head_found start was is line (Remove n) w r e = (head_removes was w is line r n e, head_small line (Remove n) e)
head_found start was is line (Put n) w r e = (head_puts was w is line r n e, head_small line (Put n) e)

-- in a body that starts at a place of the script
module _ (src : Bytes) (from s n : ℕ) (was : Cursor) {z : List Item} (of : was.src.now ≡ src) (said_was : said_at (inside s n (part src from was.place)) was ≡ z) where
  pub body_unended : length src ≤ was.place → z ≡ stop (wrong_at s NoEnd) ∷ []
  body_unended h =
      sym said_was ∙ ap (items_of (inside s n (part src from was.place)) (suc was.lines)) (ap (λ t. lines_of (drop was.place t)) of ∙ no_lines src was.place h) ∙ unended_said _ _ _ _

  module _ (is : Cursor) (line : Bytes) (r : LineRead was line is) where
    read_line : z ≡ items_of (inside s n (part src from was.place)) (suc was.lines) (line ∷ lines_of (drop is.place was.src.now))
    read_line = sym said_was ∙ ap (items_of (inside s n (part src from was.place)) (suc was.lines)) r.at.is

    pub body_text : from ≤ was.place → body_line_of line ≡ Ok Text → said_at (inside s n (part src from is.place)) is ≡ z
    body_text h e =
        sym (line_on (inside s n (part src from is.place)) was is line r)
        ∙ ⊎_elim lf last r.at.text
        ∙ sym (text_said _ _ _ _ _ _ e)
        ∙ sym read_line
      where
        rest : List Bytes
        rest = lines_of (drop is.place was.src.now)

        grown : Bytes
        grown = part src from was.place ++ (line ++ (10 ∷ []))

        lf : part was.src.now was.place is.place ≡ line ++ (10 ∷ []) → items_of (inside s n (part src from is.place)) (suc (suc was.lines)) rest ≡ items_of (inside s n grown) (suc (suc was.lines)) rest
        lf t =
            let m = r.at.moves in
            let here : part src was.place is.place ≡ line ++ (10 ∷ []) = sym (ap (λ xs. part xs was.place is.place) of) ∙ t in
            ap (λ ys. items_of (inside s n ys) (suc (suc was.lines)) rest)
            (part_joined src from was.place is.place h (omega arith) ∙ ap (λ ys. part src from was.place ++ ys) here)

        last : length was.src.now ≤ is.place → items_of (inside s n (part src from is.place)) (suc (suc was.lines)) rest ≡ items_of (inside s n grown) (suc (suc was.lines)) rest
        last l =
            let none : rest ≡ [] = no_lines was.src.now is.place l in
            ap (items_of (inside s n (part src from is.place)) (suc (suc was.lines))) none
            ∙ unended_said _ _ _ _
            ∙ sym (unended_said s n grown (suc (suc was.lines)))
            ∙ sym (ap (items_of (inside s n grown) (suc (suc was.lines))) none)

    pub body_ended : (count : ℕ) → count ≡ was.place - from - 1 → from ≤ was.place → body_line_of line ≡ Ok End → z ≡ change s n (body (undotted (take count (drop from src)))) ∷ said_at between is
    body_ended count c h e =
        let i = r.at.inside in
        let m = r.at.moves in
        let long = ap length of in
        read_line
        ∙ end_said _ _ _ _ _ _ e
        ∙ ap (λ t. change s n (body (undotted t)) ∷ items_of between (suc (suc was.lines)) (lines_of (drop is.place was.src.now)))
        (part_shorter src from was.place h (omega arith) ∙ ap (λ k. take k (drop from src)) (sym c))
        ∙ ap (λ js. change s n (body (undotted (take count (drop from src)))) ∷ js) (line_on between was is line r)

    pub body_wrong : (m : Mistake) (x : ScriptError) → body_line_of line ≡ Err m → x ≡ wrong_at is.lines m → z ≡ stop x ∷ []
    body_wrong m x e w = rw w (read_line ∙ wrong_said _ _ _ _ _ _ m e ∙ ap (λ k. stop (wrong_at k m) ∷ []) (sym (r.counted ∙ add-one was.lines)))
