use Rattle.std.proofs.Common.{◌≡◌, ◌≤◌, drop}
use Rattle.std.specs.Option.{option_copied}
use Rattle.column_storage.specs.Bits.{flags_of, set_places}
use Rattle.column_storage.specs.Iterators.{places_left}
use Rattle.column_storage.proofs.true_idx_iter.TrueIdxIter.next_place.Given as goal

-- the bits that were passed over are not set
abbrev pub invariant-loop-index : goal.invariant-loop-index
invariant-loop-index l = record {
  same : places_left l.self ≡ places_left l.fn.self;
  same_len : l.self.len ≡ l.fn.self.len;
  end : l.index-end ≡ l.self.len;
  within : l.index ≤ l.index-end;
  passed : set_places l.index (drop l.index (flags_of l.self.len (option_copied l.self.validity))) ≡ places_left l.self;
}
