mod RepairByHand
mod ReadByHand
