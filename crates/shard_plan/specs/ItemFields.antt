-- What an `Items` keeps in memory. The public contracts do not speak of it.
use Rattle.std.specs.Prelude.{◌≤◌, length}
use Rattle.sd_base.specs.Cutting.{RiseWithin, chunks_between}
use Rattle.sd_base.specs.declared.limits.TheConstants.{MAX_INPUT}
use Rattle.shard_plan.specs.Items.{AreNamed, ItemList}
use Rattle.shard_plan.specs.declared.items.Items.TheInside.{Inside}

abbrev pub item_list : Inside → ItemList
item_list items = record {
  chunks = chunks_between items.text.now items.start items.ends.now;
  names = items.names.now;
}

pub record AreItems (items : Inside) : Type 0 where
  pub fits : length items.text.now ≤ MAX_INPUT
  pub rise : RiseWithin items.start (length items.text.now) items.ends.now
  pub named : AreNamed (chunks_between items.text.now items.start items.ends.now) items.names.now
