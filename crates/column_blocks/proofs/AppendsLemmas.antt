-- Laws of what calls append to blocks.
use Rattle.std.proofs.Common.{◌≡◌, ℕ, ◌+◌, ◌<◌, ◌≤◌, Bool, true, false, List, [], ◌∷◌, ◌++◌, length, take, drop, refl, sym, ◌∙◌, ap, subst, arith, if◌then◌else◌, ◌==◌, length-append}
use Rattle.std.specs.Prelude.{nat_le}
use Rattle.std.specs.List.{concat}
use Rattle.std.proofs.lemmas.List.{append_assoc, append-nil, take_at, drop_at, drop_all, take_all, length-take, drop-append-le, take-take, take-append-drop}
use Rattle.std.proofs.lemmas.List.Folds.{concat-append}
use Rattle.std.proofs.lemmas.List.Elements.{All-nil, All-cons, All-append, All-take, All-drop}
use Rattle.column_blocks.specs.Blocks.{AreFilled, GrowTo, ByteBlocks, byte_blocks, blocks_of, buffers_of, room_for, written, block_finished, buffer_pushed, is_short_value, stored, written_values, AppendsBytes}
use Rattle.column_blocks.proofs.BlocksLemmas.{buffers_with, some_block, count_if, buffers_of-blocks_of, written_if, written_by}

-- ---- buffers that grow

pub grow-append : (xs ys : List (List ℕ)) → GrowTo xs (xs ++ ys)
grow-append [] ys = tt
grow-append (x ∷ xs) ys = (take_all (length x) x (omega arith), grow-append xs ys)

pub grow-refl : (xs : List (List ℕ)) → GrowTo xs xs
grow-refl [] = tt
grow-refl (x ∷ xs) = (take_all (length x) x (omega arith), grow-refl xs)

-- a beginning of a beginning
pub prefix_trans : {X : Type 0} (xs ys zs : List X) → take (length xs) ys ≡ xs → take (length ys) zs ≡ ys → take (length xs) zs ≡ xs
prefix_trans xs ys zs first second =
    let shorter : length xs ≤ length ys = omega (arith, length-take (length xs) ys, ap length first) in
    sym (take-take (length xs) (length ys) zs shorter) ∙ ap (take (length xs)) second ∙ first

pub grow-trans : (xs ys zs : List (List ℕ)) → GrowTo xs ys → GrowTo ys zs → GrowTo xs zs
grow-trans [] ys zs first second = tt
grow-trans (x ∷ xs) [] zs first second = absurd first
grow-trans (x ∷ xs) (y ∷ ys) [] first second = absurd second
grow-trans (x ∷ xs) (y ∷ ys) (z ∷ zs) first second = (prefix_trans x y z first.0 second.0, grow-trans xs ys zs first.1 second.1)

grow-last : (xs : List (List ℕ)) (y more : List ℕ) → GrowTo (xs ++ y ∷ []) (xs ++ (y ++ more) ∷ [])
grow-last [] y more = (take_at y more (length y) refl, tt)
grow-last (x ∷ xs) y more = (take_all (length x) x (omega arith), grow-last xs y more)

grow-with : (xs : List (List ℕ)) (block : List ℕ) → GrowTo xs (buffers_with xs block)
grow-with xs [] = grow-refl xs
grow-with xs (byte ∷ block) = subst (GrowTo xs) (sym (some_block xs byte block)) (grow-append xs ((byte ∷ block) ∷ []))

grow-block : (xs : List (List ℕ)) (block more : List ℕ) → GrowTo (buffers_with xs block) (buffers_with xs (block ++ more))
grow-block xs [] more = grow-with xs more
grow-block xs (byte ∷ block) more =
    subst (λ (old : List (List ℕ)). GrowTo old (buffers_with xs (byte ∷ (block ++ more)))) (sym (some_block xs byte block))
    (subst (GrowTo (xs ++ (byte ∷ block) ∷ [])) (sym (some_block xs byte (block ++ more))) (grow-last xs (byte ∷ block) more))

-- ---- end to end

concat-last : (xs : List (List ℕ)) (y : List ℕ) → concat (xs ++ y ∷ []) ≡ concat xs ++ y
concat-last xs y = concat-append xs (y ∷ []) ∙ ap (λ (zs : List ℕ). concat xs ++ zs) (append-nil y)

end_with : (finished : List (List ℕ)) (block : List ℕ) → concat (buffers_with finished block) ≡ concat finished ++ block
end_with finished [] = sym (append-nil (concat finished))
end_with finished (byte ∷ block) = ap concat (some_block finished byte block) ∙ concat-last finished (byte ∷ block)

end-block : (finished : List (List ℕ)) (block bytes : List ℕ) → concat (buffers_with finished (block ++ bytes)) ≡ concat (buffers_with finished block) ++ concat (bytes ∷ [])
end-block finished block bytes =
    end_with finished (block ++ bytes)
    ∙ sym (append_assoc (concat finished) block bytes)
    ∙ ap (λ (ys : List ℕ). ys ++ bytes) (sym (end_with finished block))
    ∙ ap (λ (ys : List ℕ). concat (buffers_with finished block) ++ ys) (sym (append-nil bytes))

-- ---- how many

one_if : (test : Bool) → (if test then 0 else 1) ≤ 1
one_if true = omega arith
one_if false = omega arith

length-with : (finished : List (List ℕ)) (block : List ℕ) → length (buffers_with finished block) ≤ length finished + 1
length-with finished block = omega (arith, count_if (length block == 0) finished block, one_if (length block == 0))

with-length : (finished : List (List ℕ)) (block : List ℕ) → length finished ≤ length (buffers_with finished block)
with-length finished block = omega (arith, count_if (length block == 0) finished block)

length-block : (finished : List (List ℕ)) (block more : List ℕ) → length (buffers_with finished (block ++ more)) ≤ length (buffers_with finished block) + 1
length-block finished block more = omega (arith, length-with finished (block ++ more), with-length finished block)

-- ---- none empty

abbrev IsFilled : List ℕ → Type 0
IsFilled bytes = 0 < length bytes

-- what follows the finished buffers
filled_with : (finished : List (List ℕ)) (block : List ℕ) → AreFilled (drop (length finished) (buffers_with finished block))
filled_with finished [] = subst AreFilled (sym (drop_all (length finished) finished (omega arith))) (All-nil IsFilled)
filled_with finished (byte ∷ block) =
    subst AreFilled (sym (ap (drop (length finished)) (some_block finished byte block) ∙ drop_at finished ((byte ∷ block) ∷ []) (length finished) refl))
    (All-cons IsFilled (byte ∷ block) [] (omega arith) (All-nil IsFilled))

filled-front : (xs ys : List (List ℕ)) → AreFilled (xs ++ ys) → AreFilled xs
filled-front xs ys all = subst AreFilled (take_at xs ys (length xs) refl) (All-take IsFilled (length xs) (xs ++ ys) all)

filled-back : (xs ys : List (List ℕ)) → AreFilled (xs ++ ys) → AreFilled ys
filled-back xs ys all = subst AreFilled (drop_at xs ys (length xs) refl) (All-drop IsFilled (length xs) (xs ++ ys) all)

-- ---- what stays

take-with : (finished : List (List ℕ)) (block : List ℕ) → take (length finished) (buffers_with finished block) ≡ finished
take-with finished [] = take_all (length finished) finished (omega arith)
take-with finished (byte ∷ block) = ap (take (length finished)) (some_block finished byte block) ∙ take_at finished ((byte ∷ block) ∷ []) (length finished) refl

pub finished-buffers_of : (blocks : ByteBlocks) → take (length blocks.finished) (buffers_of blocks) ≡ blocks.finished
unfolding buffers_of
finished-buffers_of blocks = take-with blocks.finished blocks.block

pub filled-buffers_of : (blocks : ByteBlocks) → AreFilled (drop (length blocks.finished) (buffers_of blocks))
unfolding buffers_of
filled-buffers_of blocks = filled_with blocks.finished blocks.block

-- ---- steps

pub appends-refl : (blocks : ByteBlocks) → AppendsBytes blocks blocks []
appends-refl blocks = record {
  finished = take_all (length blocks.finished) blocks.finished (omega arith);
  grown = grow-refl (buffers_of blocks);
  bytes = sym (append-nil (concat (buffers_of blocks)));
  count = omega arith;
  filled = λ some. filled-buffers_of blocks;
}

-- bytes at the end of the block
appends-block : (finished : List (List ℕ)) (block bytes : List ℕ) (room wider : ℕ) → AppendsBytes (byte_blocks finished block room) (byte_blocks finished (block ++ bytes) wider) (bytes ∷ [])
unfolding buffers_of
appends-block finished block bytes room wider = record {
  finished = take_all (length finished) finished (omega arith);
  grown = grow-block finished block bytes;
  bytes = end-block finished block bytes;
  count = length-block finished block bytes;
  filled = λ some. filled_with finished (block ++ bytes);
}

-- further finished buffers
appends-buffers : (buffers added : List (List ℕ)) → AppendsBytes (blocks_of buffers) (blocks_of (buffers ++ added)) added
unfolding buffers_of
appends-buffers buffers added = record {
  finished = take_at buffers added (length buffers) refl;
  grown = grow-append buffers added;
  bytes = concat-append buffers added;
  count = omega (arith, length-append buffers added);
  filled = λ some. subst AreFilled (sym (drop_at buffers added (length buffers) refl)) some;
}

-- the block is finished
pub appends-finished : (blocks : ByteBlocks) → AppendsBytes blocks (block_finished blocks) []
appends-finished blocks =
    let same = buffers_of-blocks_of (buffers_of blocks) in
    record {
      finished = finished-buffers_of blocks;
      grown = subst (GrowTo (buffers_of blocks)) (sym same) (grow-refl (buffers_of blocks));
      bytes = ap concat same ∙ sym (append-nil (concat (buffers_of blocks)));
      count = let size : length (buffers_of (block_finished blocks)) ≡ length (buffers_of blocks) = ap length same in omega arith;
      filled = λ some. subst (λ (buffers : List (List ℕ)). AreFilled (drop (length blocks.finished) buffers)) (sym same) (filled-buffers_of blocks);
    }

-- ---- one call after another

module _ (a b c : ByteBlocks) (first second : List (List ℕ)) (one : AppendsBytes a b first) (two : AppendsBytes b c second) where
  earlier : length a.finished ≤ length b.finished
  earlier = omega (arith, length-take (length a.finished) b.finished, ap length one.finished)

  -- the finished buffers of the middle, and what follows them at the end
  parts : drop (length a.finished) (buffers_of c) ≡ drop (length a.finished) b.finished ++ drop (length b.finished) (buffers_of c)
  parts =
      let n = length a.finished in
      let kept : take (length b.finished) (buffers_of c) ≡ b.finished = prefix_trans b.finished c.finished (buffers_of c) two.finished (finished-buffers_of c) in
      let whole : b.finished ++ drop (length b.finished) (buffers_of c) ≡ buffers_of c =
      ap (λ (front : List (List ℕ)). front ++ drop (length b.finished) (buffers_of c)) (sym kept) ∙ take-append-drop (length b.finished) (buffers_of c) in
      ap (drop n) (sym whole) ∙ drop-append-le n b.finished (drop (length b.finished) (buffers_of c)) earlier

  middle : AreFilled first → AreFilled (drop (length a.finished) b.finished)
  middle some =
      let n = length a.finished in
      let rest = drop (length b.finished) (buffers_of b) in
      let whole : b.finished ++ rest ≡ buffers_of b = ap (λ (front : List (List ℕ)). front ++ rest) (sym (finished-buffers_of b)) ∙ take-append-drop (length b.finished) (buffers_of b) in
      let split : drop n (buffers_of b) ≡ drop n b.finished ++ rest = ap (drop n) (sym whole) ∙ drop-append-le n b.finished rest earlier in
      filled-front (drop n b.finished) rest (subst AreFilled split (one.filled some))

  pub appends-trans : AppendsBytes a c (first ++ second)
  appends-trans = record {
    finished = prefix_trans a.finished b.finished c.finished one.finished two.finished;
    grown = grow-trans (buffers_of a) (buffers_of b) (buffers_of c) one.grown two.grown;
    bytes = two.bytes ∙ ap (λ (xs : List ℕ). xs ++ concat second) one.bytes ∙ append_assoc (concat (buffers_of a)) (concat first) (concat second) ∙ ap (λ (xs : List ℕ). concat (buffers_of a) ++ xs) (sym (concat-append first second));
    count = omega (arith, one.count, two.count, length-append first second);
    filled = λ all. subst AreFilled (sym parts)
        (All-append IsFilled (drop (length a.finished) b.finished) (drop (length b.finished) (buffers_of c)) (middle (filled-front first second all)) (two.filled (filled-back first second all)));
  }

-- ---- each call

appends_if : (fits : Bool) (blocks : ByteBlocks) (bytes : List ℕ) → AppendsBytes blocks (written_if fits blocks bytes) (bytes ∷ [])
appends_if true blocks bytes = appends-block blocks.finished blocks.block bytes blocks.room blocks.room
appends_if false blocks bytes =
    appends-trans blocks (block_finished blocks) (byte_blocks (buffers_of blocks) bytes (room_for blocks.room (length bytes))) [] (bytes ∷ []) (appends-finished blocks)
    (appends-block (buffers_of blocks) [] bytes 0 (room_for blocks.room (length bytes)))

pub appends-written : (blocks : ByteBlocks) (bytes : List ℕ) → AppendsBytes blocks (written blocks bytes) (bytes ∷ [])
appends-written blocks bytes =
    subst (λ (after : ByteBlocks). AppendsBytes blocks after (bytes ∷ [])) (sym (written_by blocks bytes)) (appends_if (nat_le (length blocks.block + length bytes) blocks.room) blocks bytes)

stored_if : (short : Bool) (blocks : ByteBlocks) (bytes : List ℕ) → AppendsBytes blocks (if short then blocks else written blocks bytes) (if short then [] else bytes ∷ [])
stored_if true blocks bytes = appends-refl blocks
stored_if false blocks bytes = appends-written blocks bytes

pub appends-stored : (blocks : ByteBlocks) (bytes : List ℕ) → AppendsBytes blocks (stored blocks bytes) (written_values bytes)
appends-stored blocks bytes = stored_if (is_short_value bytes) blocks bytes

pub appends-pushed : (blocks : ByteBlocks) (buffer : List ℕ) → AppendsBytes blocks (buffer_pushed blocks buffer) (buffer ∷ [])
appends-pushed blocks buffer =
    appends-trans blocks (block_finished blocks) (buffer_pushed blocks buffer) [] (buffer ∷ []) (appends-finished blocks) (appends-buffers (buffers_of blocks) (buffer ∷ []))
