-- S1 to S12 and the sample of document 02, request 4, hold: the list of what is got and the list of what is said are the same, by computing them.
-- Assumes nothing.
use mathlib.Core.Path.{refl}
use Rattle.paper.specs.Claims.{C10}
use Rattle.paper.specs.Samples as S
use Rattle.paper.specs.Numbers as N
use Rattle.paper.specs.Rooms as R
use Rattle.paper.specs.Leaf as L
use Rattle.paper.specs.Outline as O
use Rattle.paper.specs.Store as St
use Rattle.paper.specs.Meaning as Me
use Rattle.paper.specs.Match as M
use Rattle.paper.specs.Walk as W
use Rattle.paper.specs.Questions as Q
use Rattle.paper.specs.Packed as P
use Rattle.paper.specs.Pack as Pk
use Rattle.paper.specs.Order as Or
use Rattle.paper.specs.Detail as D
use Rattle.paper.specs.Calls as C

pub samples-hold : C10
unfolding N.sum N.gather N.bytes N.be N.flatten N.count N.tabulate N.all_in N.is_in N.index_in N.same_list R.sum3 R.box_count R.non_empty L.leaf_of L.mirror_leaf O.record_of O.root_record O.outline_of O.read_leaf O.read_children O.read_record O.read_root O.outline_rules O.outline_tree O.tree_voxel O.file_room St.groups St.kept_in St.kept_of St.over_children St.solid_of St.count_of St.counts_ok St.key_of St.first_in St.chain_words St.chains_ok St.store_of St.padded St.list_regions St.words_of St.empty_store St.blank St.header_ok St.scene_ok St.place_ok St.leaf_usable St.cell_usable St.list_usable St.store_ok Me.cell_voxel Me.root_room M.pointer_match M.cell_match M.matches M.lowest M.find M.keep M.add_cell M.in_turn M.add_tree W.walk_in Q.voxel_walk Q.walk_damaged Q.pointer_to Q.cell_non_empty Q.total Q.cell_tally Q.box_tally P.size_at P.tail_at P.list_at P.halves P.codes_ok P.read_pointers P.pointers_at P.leaf_at P.record_ok P.leaf_ok P.starts_from P.places_at P.cells_of P.graph_of P.sizes_ok P.top_ok P.whole_at P.packed_pointer_ok P.packed_pointers_ok P.weight P.popularity P.named_ok P.apart_ok P.pointer_low P.tags_ok P.falling_ok P.lists_ok P.graph_ok P.head_ok P.packed_rules P.proper P.packed_room P.packed_path P.packed_child P.file_walk P.starts_of Pk.code Pk.pointer_bytes Pk.header Pk.width Pk.record_bytes Pk.leaf_bytes Pk.places_from Pk.size_of Pk.places Pk.size Pk.list_bytes Pk.size_bytes Pk.body Pk.layout Pk.empty_file Pk.with_count Pk.ordered Pk.next Pk.reachable Pk.renumber Pk.list_for Pk.scene_graph Pk.packed_file Or.first_number Or.settled D.greatest D.detail_outcome C.bad_size C.new_words C.new_outcome C.adding C.cells_full C.add_words C.add_outcome C.voxel_outside C.voxel_damaged C.voxel_outcome C.cell_outside C.cell_damaged C.cell_outcome C.box_outside C.scene_tally C.box_damaged C.box_outcome C.kept_outcome C.outline_bytes C.outline_short C.outline_outcome C.pack_bytes C.pack_short C.pack_outcome C.check_outcome C.packed_outside C.packed_broken C.packed_voxel_outcome C.open_outcome C.opens_to C.ask_outcome S.noise S.new_store S.differing S.samples
samples-hold = refl
