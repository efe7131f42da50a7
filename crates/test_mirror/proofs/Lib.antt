mod Promise
